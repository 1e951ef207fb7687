use Rattle.sms_world.proofs.handset_runs_are_steps.OwnersEvents.{delete_event, discard_event}
use Rattle.sms_world.proofs.handset_runs_are_steps.WriteEvents.{write_event}
use Rattle.sms_world.proofs.handset_runs_are_steps.acts_are_steps.Goals as goal

pub returns : goal.returns
returns c = record { write = write_event; delete = delete_event; discard = discard_event }
