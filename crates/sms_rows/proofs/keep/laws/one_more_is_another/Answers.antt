use Rattle.std.proofs.Common.{arith}
use Rattle.sms_rows.proofs.keep.laws.one_more_is_another.Goals as goal

pub returns : goal.returns
returns c = λ n lt e. omega (arith, lt, e)
