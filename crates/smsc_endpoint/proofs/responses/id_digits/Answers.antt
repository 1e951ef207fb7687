use Rattle.std.proofs.Common.{sym, subst}
use Rattle.smpp_pdu.specs.Fields.{IsText}
use Rattle.sms_receipt.proofs.Texts.{own_text}
use Rattle.smsc_endpoint.proofs.AnswerTexts.{id_is_text}
use Rattle.smsc_endpoint.proofs.responses.id_digits.Goals as goal

pub returns-clause-value : goal.returns-clause-value
returns-clause-value c = own_text c.digits.result c.args.id c.digits.ensures

pub returns-clause-text : goal.returns-clause-text
returns-clause-text c = subst (IsText 65) (sym (own_text c.digits.result c.args.id c.digits.ensures)) (id_is_text c.args.id)
