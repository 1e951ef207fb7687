use Rattle.sms_world.proofs.scripts_are_runs.Agreeing.{event_reported}
use Rattle.sms_world.proofs.scripts_are_runs.an_event_reports_its_allocations.Goals as goal

pub returns : goal.returns
returns c = record { agrees = event_reported }
