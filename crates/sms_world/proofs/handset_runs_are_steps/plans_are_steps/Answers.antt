use Rattle.sms_world.proofs.handset_runs_are_steps.HandsetEvents.{adopted_seen}
use Rattle.sms_world.proofs.handset_runs_are_steps.Plans.{event_planned}
use Rattle.sms_world.proofs.handset_runs_are_steps.plans_are_steps.Goals as goal

pub returns : goal.returns
returns c = record { event = event_planned; adopted = adopted_seen }
