use Rattle.sms_world.proofs.centres_refine_the_world.Submits.{submit_event}
use Rattle.sms_world.proofs.centres_refine_the_world.submissions_are_events_of_scripts.Goals as goal

pub returns : goal.returns
returns c = record { submit = submit_event }
