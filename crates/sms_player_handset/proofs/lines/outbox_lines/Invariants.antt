use Rattle.std.proofs.Common.{◌≡◌, ◌++◌, drop}
use Rattle.sms_play.specs.Playing.{all_outbox_lines}
use Rattle.sms_player_handset.proofs.lines.outbox_lines.Given as goal

abbrev pub invariant-loop-party : goal.invariant-loop-party
invariant-loop-party l = l.lines ++ all_outbox_lines (drop l.party-index l.parties) ≡ all_outbox_lines l.parties
