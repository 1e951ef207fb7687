use Rattle.sms_world.proofs.premises_are_decided.WorldTimely.{timely_decided}
use Rattle.sms_world.proofs.premises_are_decided.timely_is_decided.Goals as goal

pub returns : goal.returns
returns c = timely_decided
