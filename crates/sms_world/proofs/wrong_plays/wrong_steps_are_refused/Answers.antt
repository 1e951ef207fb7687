use Rattle.sms_world.proofs.wrong_plays.NotHappened.{impossible_step, not_of_event, not_taken_in, other_number}
use Rattle.sms_world.proofs.wrong_plays.wrong_steps_are_refused.Goals as goal

pub returns : goal.returns
returns c = record { event = not_of_event; possible = impossible_step; taken = not_taken_in; number = other_number }
