use Rattle.sms_link.proofs.Turns.{busy_while_under_way}
use Rattle.sms_link.proofs.laws.a_busy_link_has_a_transfer.Goals as goal

pub returns : goal.returns
returns c = busy_while_under_way
