use Rattle.sms_world.proofs.scripts_are_runs.Beginnings.{begins}
use Rattle.sms_world.proofs.scripts_are_runs.Runs.{run_leads, script_leads}
use Rattle.sms_world.proofs.scripts_are_runs.a_script_is_a_run.Goals as goal

pub returns : goal.returns
returns c = record { beginning = begins; run = run_leads; script = script_leads }
