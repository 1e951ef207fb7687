use Rattle.std.proofs.Common.{◌≡◌, ◌%◌, length}
use Rattle.std.specs.Str.{is_utf8}
use Rattle.sms_script.specs.Hexadecimal.{spelled}
use Rattle.sms_script.proofs.text.is_text.Given as goal

abbrev pub invariant-loop-rest : goal.invariant-loop-rest
invariant-loop-rest l = (length l.rest % 2 ≡ 0) × (is_utf8 (spelled l.digits) ≡ is_utf8 (spelled l.rest))

abbrev pub decreases-loop-rest : goal.decreases-loop-rest
decreases-loop-rest l = length l.rest
