use Rattle.sms_intake.proofs.Delivers.{deliver_is}
use Rattle.sms_intake.proofs.laws.a_written_deliver_is_the_list.Goals as goal

pub returns : goal.returns
returns c = deliver_is
