use Rattle.sms_relay.proofs.CauseLaws.{reserved_is, cause_of-is, number_of-is}
use Rattle.sms_relay.proofs.laws.number_has_its_cause.Goals as goal

pub returns-clause-below : goal.returns-clause-below
returns-clause-below c = λ cause is. (number_of-is cause is).0

pub returns-clause-back : goal.returns-clause-back
returns-clause-back c = λ cause is. (number_of-is cause is).1

pub returns-clause-all : goal.returns-clause-all
returns-clause-all c = cause_of-is

pub returns-clause-reserved : goal.returns-clause-reserved
returns-clause-reserved c = reserved_is
