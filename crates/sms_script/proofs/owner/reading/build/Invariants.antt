use Rattle.std.proofs.Common.{◌≡◌, ◌≤◌, length}
use Rattle.sms_script.specs.owner.OwnersText.{acts_in, read_lines}
use Rattle.sms_script.proofs.owner.reading.build.Given as goal

abbrev pub invariant-loop-octets : goal.invariant-loop-octets
invariant-loop-octets l = (acts_in l.text ≡ read_lines l.number l.acts l.lines) × (l.number ≤ 10001)

abbrev pub decreases-loop-octets : goal.decreases-loop-octets
decreases-loop-octets l = length l.lines
