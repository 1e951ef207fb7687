use Rattle.sms_world.proofs.centres_refine_the_world.Cancelling.{cancel_event, delete_event}
use Rattle.sms_world.proofs.centres_refine_the_world.Ticks.{tick_event}
use Rattle.sms_world.proofs.centres_refine_the_world.ends_are_events_of_scripts.Goals as goal

pub returns : goal.returns
returns c = record { cancel = cancel_event; delete = delete_event; tick = tick_event }
