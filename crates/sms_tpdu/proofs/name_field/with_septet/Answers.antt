use Rattle.std.proofs.Common.{arith}
use Rattle.sms_tpdu.proofs.Powers.{below_eleven, one_before}
use Rattle.sms_tpdu.proofs.name_field.with_septet.Goals as goal

pub overflow_mul-result : goal.overflow_mul-result
overflow_mul-result c = let b = below_eleven c.args.others.1 c.args.others.0 (omega (arith, c.requires.few)) c.requires.below in omega (arith, b)

pub overflow_add-result : goal.overflow_add-result
overflow_add-result c = let b = below_eleven c.args.others.1 c.args.others.0 (omega (arith, c.requires.few)) c.requires.below in omega (arith, b, c.from.ensures)

pub returns-clause-below : goal.returns-clause-below
returns-clause-below c = one_before c.args.others.1 c.from.result c.args.others.0 (omega (arith, c.from.ensures)) c.requires.below
