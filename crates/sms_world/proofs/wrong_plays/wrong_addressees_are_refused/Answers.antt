use Rattle.sms_world.proofs.wrong_plays.ReportTold.{right_told, to_recipient, told_early, told_of_none}
use Rattle.sms_world.proofs.wrong_plays.wrong_addressees_are_refused.Goals as goal

pub returns : goal.returns
returns c = record { right = right_told; recipient = to_recipient; none = told_of_none; early = told_early }
