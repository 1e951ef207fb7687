use Rattle.sms_tpdu.proofs.MoreBits.{compared_reads, more_messages_reads}
use Rattle.sms_tpdu.proofs.laws.a_set_tpdu_is_read_alike.Goals as goal

pub returns-clause-set : goal.returns-clause-set
returns-clause-set c = more_messages_reads

pub returns-clause-compared : goal.returns-clause-compared
returns-clause-compared c = compared_reads
