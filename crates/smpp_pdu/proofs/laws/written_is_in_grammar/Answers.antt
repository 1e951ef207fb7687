use Rattle.smpp_pdu.proofs.WriteLaws.{written_is_pdu}
use Rattle.smpp_pdu.proofs.laws.written_is_in_grammar.Goals as goal

pub returns : goal.returns
returns c = λ octets p h. rw h.1 (written_is_pdu p h.0)
