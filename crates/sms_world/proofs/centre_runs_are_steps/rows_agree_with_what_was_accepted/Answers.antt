use Rattle.sms_world.proofs.centre_runs_are_steps.RowsAreTrue.{delivered_is_true, episode_runs, once_is_true, reported_is_true}
use Rattle.sms_world.proofs.centre_runs_are_steps.rows_agree_with_what_was_accepted.Goals as goal

pub returns : goal.returns
returns c = record { runs = episode_runs; reported = reported_is_true; delivered = delivered_is_true; once = once_is_true }
