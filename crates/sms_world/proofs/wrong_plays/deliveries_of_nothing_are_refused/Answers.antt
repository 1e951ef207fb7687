use Rattle.sms_world.proofs.wrong_plays.NoMessage.{line_of_none, receipt_of_none}
use Rattle.sms_world.proofs.wrong_plays.NotDelivered.{accepted_twice, never_accepted, not_given, other_text, part_twice}
use Rattle.sms_world.proofs.wrong_plays.deliveries_of_nothing_are_refused.Goals as goal

pub returns : goal.returns
returns c = record { never = never_accepted; twice = accepted_twice; text = other_text; given = not_given; once = part_twice; line = line_of_none; receipt = receipt_of_none }
