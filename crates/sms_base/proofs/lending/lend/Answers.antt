use Rattle.std.proofs.Common.{rules}
use Rattle.sms_base.proofs.lending.lend.Goals as goal

pub returns : goal.returns
returns g c = (c.work.new.arg2, search rules)
