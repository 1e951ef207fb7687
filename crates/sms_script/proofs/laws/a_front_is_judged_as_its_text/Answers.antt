use Rattle.sms_script.proofs.Fronts.{front_judged}
use Rattle.sms_script.proofs.laws.a_front_is_judged_as_its_text.Goals as goal

pub returns : goal.returns
returns c = front_judged
