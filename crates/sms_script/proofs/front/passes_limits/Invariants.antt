use Rattle.std.proofs.Common.{◌≡◌, ◌≤◌, length}
use Rattle.sms_script.specs.Limits.{passes_from, passes_limits}
use Rattle.sms_script.proofs.front.passes_limits.Given as goal

abbrev pub invariant-loop-line : goal.invariant-loop-line
invariant-loop-line l = (passes_limits l.text ≡ passes_from l.number l.lines) × (l.number ≤ 20001)

abbrev pub decreases-loop-line : goal.decreases-loop-line
decreases-loop-line l = length l.lines
