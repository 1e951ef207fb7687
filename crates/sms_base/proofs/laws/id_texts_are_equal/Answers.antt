use Rattle.sms_base.proofs.MessageIds.{one_text}
use Rattle.sms_base.proofs.laws.id_texts_are_equal.Goals as goal

pub returns : goal.returns
returns c = one_text
