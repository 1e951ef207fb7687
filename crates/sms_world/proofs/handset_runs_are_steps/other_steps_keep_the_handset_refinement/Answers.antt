use Rattle.sms_world.proofs.handset_runs_are_steps.Others.{centre_event, other_event}
use Rattle.sms_world.proofs.handset_runs_are_steps.other_steps_keep_the_handset_refinement.Goals as goal

pub returns : goal.returns
returns c = record { handset = other_event; centre = centre_event }
