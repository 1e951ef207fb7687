use Rattle.sms_world.proofs.centres_refine_the_world.QuietEvents.{down_event, query_event, retry_event, up_event}
use Rattle.sms_world.proofs.centres_refine_the_world.quiet_events_are_offers.Goals as goal

pub returns : goal.returns
returns c = record { query = query_event; up = up_event; down = down_event; retry = retry_event }
