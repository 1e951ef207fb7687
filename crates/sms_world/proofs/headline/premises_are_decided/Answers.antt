use Rattle.sms_world.proofs.headline.ExactPremises.{first_is, none_is}
use Rattle.sms_world.proofs.headline.WorldAnswers.{world_is}
use Rattle.sms_world.proofs.headline.premises_are_decided.Goals as goal

pub returns : goal.returns
returns c = record { none = none_is; first = first_is; world = world_is }
