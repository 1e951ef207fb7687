use Rattle.sms_control.proofs.ReplyLaws.{replied_once}
use Rattle.sms_control.proofs.laws.an_opening_is_answered_once.Goals as goal

pub returns : goal.returns
returns c = replied_once
