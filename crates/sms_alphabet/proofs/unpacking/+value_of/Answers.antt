use Rattle.std.proofs.Common.{arith}
use Rattle.sms_alphabet.proofs.Windows.{below_seven}
use Rattle.sms_alphabet.proofs.unpacking.+value_of.Goals as goal

pub overflow_mul-result : goal.overflow_mul-result
overflow_mul-result t c = let b = below_seven _ c.value_of.result (omega (arith, c.requires)) c.value_of.ensures.below in omega (arith, b)

pub overflow_add-result : goal.overflow_add-result
overflow_add-result t c = let b = below_seven _ c.value_of.result (omega (arith, c.requires)) c.value_of.ensures.below in omega (arith, b, c.from.ensures)
