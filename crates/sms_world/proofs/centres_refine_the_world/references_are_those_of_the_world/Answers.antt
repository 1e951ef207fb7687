use Rattle.sms_world.proofs.centres_refine_the_world.References.{next_law, none_law}
use Rattle.sms_world.proofs.centres_refine_the_world.references_are_those_of_the_world.Goals as goal

pub returns : goal.returns
returns c = record { next = next_law; none = none_law }
