use Rattle.sms_world.proofs.scripts_are_runs.Events.{event_leads}
use Rattle.sms_world.proofs.scripts_are_runs.an_event_is_steps.Goals as goal

pub returns : goal.returns
returns c = record { event = event_leads }
