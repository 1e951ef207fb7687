use Rattle.sms_schedule.proofs.Nexts.{next_is, is_next}
use Rattle.sms_schedule.proofs.laws.next_is_the_first_due.Goals as goal

pub returns : goal.returns
returns c = λ now waiting l rises. (next_is now waiting l, is_next now waiting l rises)
