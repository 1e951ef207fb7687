use Rattle.sms_world.proofs.centre_runs_are_steps.NothingOffered.{answered_nothing, query_nothing}
use Rattle.sms_world.proofs.centre_runs_are_steps.some_events_offer_nothing.Goals as goal

pub returns : goal.returns
returns c = record { query = query_nothing; answered = answered_nothing }
