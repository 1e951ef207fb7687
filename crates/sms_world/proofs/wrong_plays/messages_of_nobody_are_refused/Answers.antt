use Rattle.sms_world.proofs.wrong_plays.NoMessage.{from_none, nobodys}
use Rattle.sms_world.proofs.wrong_plays.messages_of_nobody_are_refused.Goals as goal

pub returns : goal.returns
returns c = record { report = nobodys; origin = from_none }
