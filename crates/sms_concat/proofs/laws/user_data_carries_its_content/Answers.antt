use Rattle.sms_concat.proofs.Bodies.{user_data_is}
use Rattle.sms_concat.proofs.laws.user_data_carries_its_content.Goals as goal

pub returns : goal.returns
returns c = user_data_is
