use Rattle.std.proofs.Common.{arith, ◌∙◌}
use Rattle.sms_base.proofs.OctetLaws.{are_octets}
use Rattle.smpp_pdu.proofs.PduLaws.{pdu_found, pdu_again}
use Rattle.smpp_pdu.proofs.pdu.Pdu.read.Goals as goal

pub returns-clause-found : goal.returns-clause-found
returns-clause-found c = pdu_found c.args.octets.now c.at.result (are_octets c.args.octets.now (λ i. omega (arith, c.type_inv.octets i))) c.at.ensures

pub returns-clause-only : goal.returns-clause-only
returns-clause-only c = λ p h. c.at.ensures ∙ pdu_again c.args.octets.now p h
