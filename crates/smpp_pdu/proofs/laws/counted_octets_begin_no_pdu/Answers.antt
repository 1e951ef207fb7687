use Rattle.smpp_pdu.proofs.PduReasons.{counted_begin_none}
use Rattle.smpp_pdu.proofs.laws.counted_octets_begin_no_pdu.Goals as goal

pub returns : goal.returns
returns c = counted_begin_none
