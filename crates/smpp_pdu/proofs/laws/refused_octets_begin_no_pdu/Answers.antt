use Rattle.smpp_pdu.proofs.FaultLaws.{begins_none}
use Rattle.smpp_pdu.proofs.laws.refused_octets_begin_no_pdu.Goals as goal

pub returns : goal.returns
returns c = begins_none
