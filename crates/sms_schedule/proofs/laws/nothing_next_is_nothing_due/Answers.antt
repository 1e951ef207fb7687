use Rattle.sms_schedule.proofs.Nexts.{nothing_is_due}
use Rattle.sms_schedule.proofs.laws.nothing_next_is_nothing_due.Goals as goal

pub returns : goal.returns
returns c = nothing_is_due
