use Rattle.sms_world.proofs.centres_refine_the_world.Staying.{handset_stays}
use Rattle.sms_world.proofs.centres_refine_the_world.handset_steps_keep_the_centre_refinement.Goals as goal

pub returns : goal.returns
returns c = handset_stays
