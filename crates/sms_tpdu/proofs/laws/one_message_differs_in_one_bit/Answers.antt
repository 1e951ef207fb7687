use Rattle.sms_tpdu.proofs.MoreBits.{same_empty, same_parts}
use Rattle.sms_tpdu.proofs.laws.one_message_differs_in_one_bit.Goals as goal

pub returns-clause-some : goal.returns-clause-some
returns-clause-some c = same_parts

pub returns-clause-none : goal.returns-clause-none
returns-clause-none c = same_empty
