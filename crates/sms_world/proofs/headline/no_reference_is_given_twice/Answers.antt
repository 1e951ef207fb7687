use Rattle.sms_world.proofs.headline.Claimed.{given_is}
use Rattle.sms_world.proofs.headline.no_reference_is_given_twice.Goals as goal

pub returns : goal.returns
returns c = given_is
