use Rattle.sms_schedule.proofs.Nexts.{same_next}
use Rattle.sms_schedule.proofs.laws.same_rows_have_the_same_next.Goals as goal

pub returns : goal.returns
returns c = same_next
