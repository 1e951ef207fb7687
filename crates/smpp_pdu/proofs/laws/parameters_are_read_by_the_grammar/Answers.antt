use Rattle.smpp_pdu.proofs.TlvLaws.{parameters_take, parameters_again}
use Rattle.smpp_pdu.proofs.TlvFaults.{only_bad_tlv}
use Rattle.smpp_pdu.proofs.laws.parameters_are_read_by_the_grammar.Goals as goal

pub returns-clause-found : goal.returns-clause-found
returns-clause-found c = parameters_take

pub returns-clause-only : goal.returns-clause-only
returns-clause-only c = parameters_again

pub returns-clause-fault : goal.returns-clause-fault
returns-clause-fault c = only_bad_tlv
