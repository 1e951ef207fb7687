use Rattle.sms_control.proofs.ReplyLaws.{replies_follow_openings}
use Rattle.sms_control.proofs.laws.answers_follow_openings.Goals as goal

pub returns : goal.returns
returns c = replies_follow_openings
