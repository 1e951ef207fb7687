use Rattle.std.proofs.Common.{◌≡◌, ◌++◌, drop}
use Rattle.sms_play.specs.Playing.{outbox_lines}
use Rattle.sms_player_handset.proofs.lines.put_outbox.Given as goal

abbrev pub invariant-loop-entry : goal.invariant-loop-entry
invariant-loop-entry l = l.lines ++ outbox_lines l.handset (drop l.entry-index l.outbox) ≡ l.fn.lines ++ outbox_lines l.handset l.outbox
