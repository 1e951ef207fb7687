use Rattle.sms_world.proofs.wrong_plays.NotJoined.{of_none, split_of_none}
use Rattle.sms_world.proofs.wrong_plays.texts_joined_of_nothing_are_refused.Goals as goal

pub returns : goal.returns
returns c = record { round = of_none; text = split_of_none }
