use Rattle.sms_world.proofs.centre_runs_are_steps.Plans.{plan_leads}
use Rattle.sms_world.proofs.centre_runs_are_steps.plans_are_steps.Goals as goal

pub returns : goal.returns
returns c = record { plan = plan_leads }
