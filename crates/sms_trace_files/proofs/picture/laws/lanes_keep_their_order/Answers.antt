use Rattle.std.proofs.Common.{arith}
use Rattle.sms_trace_files.proofs.picture.Orders.{more_before}
use Rattle.sms_trace_files.proofs.picture.laws.lanes_keep_their_order.Goals as goal

pub returns : goal.returns
returns c = λ rows lane other before touched. let more = more_before rows lane other before touched in omega arith
