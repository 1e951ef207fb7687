use Rattle.std.proofs.Common.{arith}
use Rattle.sms_player_handset.proofs.Noted.{entries_step}
use Rattle.sms_player_handset.proofs.notes.note_entries.Goals as goal

pub loop-place-preserved : goal.loop-place-preserved
loop-place-preserved c =
    entries_step c.args.handset c.args.moment c.args.outbox.now.rows c.args.changes.now c.loop-place.place c.index-changes-place.result (omega arith) c.index-changes-place.is
    c.loop-place.given c.note_out.new.given _
    c.in_ok-note_out.ensures
    c.loop-place.invariant
