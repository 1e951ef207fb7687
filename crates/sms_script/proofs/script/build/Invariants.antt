use Rattle.std.proofs.Common.{◌≡◌, length}
use Rattle.sms_script.specs.WholeScript.{script_in, read_lines}
use Rattle.sms_script.proofs.script.build.Given as goal

abbrev pub invariant-loop-octets : goal.invariant-loop-octets
invariant-loop-octets l = script_in l.text ≡ read_lines l.progress l.script l.lines

abbrev pub decreases-loop-octets : goal.decreases-loop-octets
decreases-loop-octets l = length l.lines
