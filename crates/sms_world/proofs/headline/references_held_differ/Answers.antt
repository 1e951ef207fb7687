use Rattle.sms_world.proofs.headline.Claimed.{held_is}
use Rattle.sms_world.proofs.headline.references_held_differ.Goals as goal

pub returns : goal.returns
returns c = held_is
