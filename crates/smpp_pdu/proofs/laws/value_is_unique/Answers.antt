use Rattle.smpp_pdu.proofs.WriteLaws.{one_value}
use Rattle.smpp_pdu.proofs.laws.value_is_unique.Goals as goal

pub returns : goal.returns
returns c = λ octets p q h k. one_value octets p q h k
