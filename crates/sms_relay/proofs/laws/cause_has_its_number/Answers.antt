use Rattle.sms_relay.proofs.CauseLaws.{cause_of-number}
use Rattle.sms_relay.proofs.laws.cause_has_its_number.Goals as goal

pub returns : goal.returns
returns c = cause_of-number
