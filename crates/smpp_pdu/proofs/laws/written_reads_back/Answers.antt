use Rattle.smpp_pdu.proofs.WriteLaws.{written_is_read}
use Rattle.smpp_pdu.proofs.laws.written_reads_back.Goals as goal

pub returns : goal.returns
returns c = λ octets p h. rw h.1 (written_is_read p h.0)
