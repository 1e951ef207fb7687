use Rattle.sms_tpdu.proofs.MoreBits.{is_same, same_back, same_itself, same_on}
use Rattle.sms_tpdu.proofs.laws.one_message_is_an_equivalence.Goals as goal

pub returns-clause-is : goal.returns-clause-is
returns-clause-is c = is_same

pub returns-clause-itself : goal.returns-clause-itself
returns-clause-itself c = same_itself

pub returns-clause-back : goal.returns-clause-back
returns-clause-back c = same_back

pub returns-clause-on : goal.returns-clause-on
returns-clause-on c = same_on
