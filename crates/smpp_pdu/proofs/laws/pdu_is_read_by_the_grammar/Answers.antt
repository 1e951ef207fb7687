use Rattle.smpp_pdu.proofs.PduLaws.{pdu_takes, pdu_again}
use Rattle.smpp_pdu.proofs.laws.pdu_is_read_by_the_grammar.Goals as goal

pub returns-clause-found : goal.returns-clause-found
returns-clause-found c = pdu_takes

pub returns-clause-only : goal.returns-clause-only
returns-clause-only c = pdu_again
