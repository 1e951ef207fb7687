use Rattle.sms_world.proofs.centre_runs_are_steps.FrameEvents.{frame_event}
use Rattle.sms_world.proofs.centre_runs_are_steps.a_frame_is_steps.Goals as goal

pub returns : goal.returns
returns c = record { frame = frame_event }
