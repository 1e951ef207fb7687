use Rattle.std.proofs.Common.{◌≡◌, ◌≤◌, length}
use Rattle.sms_script.specs.owner.OwnersText.{judge_in, judge_lines}
use Rattle.sms_script.proofs.owner.reading.judge.Given as goal

abbrev pub invariant-loop-octets : goal.invariant-loop-octets
invariant-loop-octets l = (judge_in l.text ≡ judge_lines l.number l.lines) × (l.number ≤ 10001)

abbrev pub decreases-loop-octets : goal.decreases-loop-octets
decreases-loop-octets l = length l.lines
