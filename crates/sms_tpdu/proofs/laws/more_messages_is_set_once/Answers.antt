use Rattle.sms_tpdu.proofs.MoreBits.{keeps, more_messages_again, more_messages_fits, more_messages_keeps, more_messages_same}
use Rattle.sms_tpdu.proofs.laws.more_messages_is_set_once.Goals as goal

pub returns-clause-bit : goal.returns-clause-bit
returns-clause-bit c = λ more first. (keeps more first).told

pub returns-clause-unchanged : goal.returns-clause-unchanged
returns-clause-unchanged c = more_messages_keeps

pub returns-clause-same : goal.returns-clause-same
returns-clause-same c = more_messages_same

pub returns-clause-last : goal.returns-clause-last
returns-clause-last c = more_messages_again

pub returns-clause-octets : goal.returns-clause-octets
returns-clause-octets c = more_messages_fits
