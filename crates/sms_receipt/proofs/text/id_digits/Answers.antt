use Rattle.sms_receipt.proofs.Texts.{own_text}
use Rattle.sms_receipt.proofs.text.id_digits.Goals as goal

pub returns : goal.returns
returns c = own_text c.digits.result c.args.id c.digits.ensures
