use Rattle.sms_world.proofs.wrong_plays.PiecesJoined.{not_given, right_round, two_parts}
use Rattle.sms_world.proofs.wrong_plays.rounds_of_nothing_are_refused.Goals as goal

pub returns : goal.returns
returns c = record { right = right_round; given = not_given; alone = two_parts }
