use Rattle.std.proofs.Common.{arith}
use Rattle.sms_base.proofs.OctetLaws.{are_octets}
use Rattle.sms_alphabet.proofs.packing.are_octets.Goals as goal

pub returns : goal.returns
returns c = are_octets c.args.octets.now (λ i. omega (arith, c.type_inv.octets i))
