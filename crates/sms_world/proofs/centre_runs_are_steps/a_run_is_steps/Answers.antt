use Rattle.sms_world.proofs.centre_runs_are_steps.Runs.{run_is_steps, first_run_is_steps}
use Rattle.sms_world.proofs.centre_runs_are_steps.a_run_is_steps.Goals as goal

pub returns : goal.returns
returns c = record { run = run_is_steps; first = first_run_is_steps }
