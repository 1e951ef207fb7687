use Rattle.sms_world.proofs.plans_are_steps.Planned.{plans_lead}
use Rattle.sms_world.proofs.plans_are_steps.what_is_planned_is_steps.Goals as goal

pub returns : goal.returns
returns c = plans_lead
