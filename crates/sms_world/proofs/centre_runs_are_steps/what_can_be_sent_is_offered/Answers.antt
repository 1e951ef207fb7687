use Rattle.sms_world.proofs.centre_runs_are_steps.AfterOffers.{back_offered, event_offered, first_offered}
use Rattle.sms_world.proofs.centre_runs_are_steps.what_can_be_sent_is_offered.Goals as goal

pub returns : goal.returns
returns c = record { first = first_offered; back = back_offered; event = event_offered }
