use Rattle.std.proofs.Common.{◌≡◌, length}
use Rattle.sms_script.specs.WholeScript.{judge_in, judge_lines}
use Rattle.sms_script.proofs.script.judge.Given as goal

abbrev pub invariant-loop-octets : goal.invariant-loop-octets
invariant-loop-octets l = judge_in l.text ≡ judge_lines l.progress l.lines

abbrev pub decreases-loop-octets : goal.decreases-loop-octets
decreases-loop-octets l = length l.lines
