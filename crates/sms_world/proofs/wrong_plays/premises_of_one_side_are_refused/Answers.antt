use Rattle.sms_world.proofs.wrong_plays.WholePlay.{late_alone, late_frame, stale_alone}
use Rattle.sms_world.proofs.wrong_plays.premises_of_one_side_are_refused.Goals as goal

pub returns : goal.returns
returns c = record { late = late_frame; timely = late_alone; fresh = stale_alone }
