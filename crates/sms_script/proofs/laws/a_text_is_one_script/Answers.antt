use Rattle.sms_script.proofs.ScriptLaws.{one_script}
use Rattle.sms_script.proofs.laws.a_text_is_one_script.Goals as goal

pub returns : goal.returns
returns c = one_script
