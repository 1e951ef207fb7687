use Rattle.smpp_pdu.proofs.FaultLaws.{fault_stays}
use Rattle.smpp_pdu.proofs.laws.a_fault_stays.Goals as goal

pub returns : goal.returns
returns c = fault_stays
