use Rattle.std.proofs.Common.{◌≡◌, ◌++◌, drop}
use Rattle.sms_play.specs.Playing.{joined_lines}
use Rattle.sms_player_handset.proofs.lines.joined_lines.Given as goal

abbrev pub invariant-loop-party : goal.invariant-loop-party
invariant-loop-party l = l.lines ++ joined_lines (drop l.party-index l.parties) ≡ joined_lines l.parties
