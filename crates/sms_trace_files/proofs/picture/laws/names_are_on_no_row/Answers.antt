use Rattle.std.proofs.Common.{arith}
use Rattle.sms_trace_files.proofs.picture.laws.names_are_on_no_row.Goals as goal

pub returns : goal.returns
returns c = λ head row same. omega arith
