use Rattle.sms_world.proofs.wrong_plays.HeldTwice.{refused as held_twice}
use Rattle.sms_world.proofs.wrong_plays.LinesMoved.{given as given_is}
use Rattle.sms_world.proofs.wrong_plays.shared_references_are_refused.Goals as goal

pub returns : goal.returns
returns c = record { held = held_twice; given = given_is }
