use Rattle.sms_world.proofs.centre_runs_are_steps.EveryEvent.{every_event}
use Rattle.sms_world.proofs.centre_runs_are_steps.every_event_is_steps.Goals as goal

pub returns : goal.returns
returns c = record { event = every_event }
