use Rattle.sms_world.proofs.headline.HeadlineHolds.{one_run_is}
use Rattle.sms_world.proofs.headline.a_script_is_a_run.Goals as goal

pub returns : goal.returns
returns c = one_run_is
