use Rattle.sms_world.proofs.centres_refine_the_world.SessionsBound.{bound_event}
use Rattle.sms_world.proofs.centres_refine_the_world.SessionsChange.{answered_event, unbound_event}
use Rattle.sms_world.proofs.centres_refine_the_world.sessions_are_offers.Goals as goal

pub returns : goal.returns
returns c = record { bound = bound_event; unbound = unbound_event; answered = answered_event }
