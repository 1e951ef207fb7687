use Rattle.std.proofs.Common.{◌≡◌, ◌++◌, drop, take}
use Rattle.sms_handset_rows.specs.outbox.Keys.{out_key}
use Rattle.sms_rows.specs.table.Table.{all_applied}
use Rattle.sms_play.specs.HandsetSide.{entries_given}
use Rattle.sms_player_handset.proofs.notes.note_entries.Given as goal

abbrev pub invariant-loop-place : goal.invariant-loop-place
invariant-loop-place l = l.given ++ entries_given l.handset l.moment (all_applied out_key (take l.place l.changes) l.outbox.rows) (drop l.place l.changes) ≡ l.fn.given ++ entries_given l.handset l.moment l.outbox.rows l.changes
