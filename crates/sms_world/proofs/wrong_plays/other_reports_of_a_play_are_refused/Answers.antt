use Rattle.sms_world.proofs.wrong_plays.WholePlay.{no_receipt, not_answered, other_state, right_fresh, right_report, right_timely}
use Rattle.sms_world.proofs.wrong_plays.other_reports_of_a_play_are_refused.Goals as goal

pub returns : goal.returns
returns c = record { right = right_report; timely = right_timely; fresh = right_fresh; state = other_state; receipt = no_receipt; answered = not_answered }
