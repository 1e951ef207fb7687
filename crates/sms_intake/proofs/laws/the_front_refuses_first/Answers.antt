use Rattle.sms_intake.proofs.FrontFirst.{front_first}
use Rattle.sms_intake.proofs.laws.the_front_refuses_first.Goals as goal

pub returns : goal.returns
returns c = front_first
