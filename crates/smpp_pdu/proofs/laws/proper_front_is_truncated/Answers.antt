use Rattle.smpp_pdu.proofs.Fronts.{front_is_short}
use Rattle.smpp_pdu.proofs.laws.proper_front_is_truncated.Goals as goal

pub returns : goal.returns
returns c = λ front rest p h some. front_is_short front rest p h some
