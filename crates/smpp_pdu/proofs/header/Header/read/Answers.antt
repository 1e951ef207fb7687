use Rattle.std.proofs.Common.{arith, ◌∙◌, sym, ap}
use Rattle.sms_base.proofs.OctetLaws.{are_octets}
use Rattle.smpp_pdu.specs.PduReading.{header_in}
use Rattle.smpp_pdu.proofs.PduLaws.{header_found, header_short}
use Rattle.smpp_pdu.proofs.header.Header.read.Goals as goal

pub returns-in-Ok-clause-found : goal.returns-in-Ok-clause-found
returns-in-Ok-clause-found c =
    header_found c.args.octets.now c.next.new.cursor c.in-Ok.header (are_octets c.args.octets.now (λ i. omega (arith, c.type_inv.octets i)))
    (ap header_in (sym c.of.ensures) ∙ c.in-Ok.ensures)

pub returns-in-Err-clause-none : goal.returns-in-Err-clause-none
returns-in-Err-clause-none c = header_short c.args.octets.now c.in-Err.field-0 (ap header_in (sym c.of.ensures) ∙ c.in-Err.ensures)
