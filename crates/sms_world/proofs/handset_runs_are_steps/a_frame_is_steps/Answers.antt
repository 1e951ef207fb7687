use Rattle.sms_world.proofs.handset_runs_are_steps.HandsetEvents.{frame_event}
use Rattle.sms_world.proofs.handset_runs_are_steps.a_frame_is_steps.Goals as goal

pub returns : goal.returns
returns c = frame_event
