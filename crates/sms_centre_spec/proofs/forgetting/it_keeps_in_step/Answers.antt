use Rattle.sms_centre_spec.proofs.forgetting.Runs.{in_step}
use Rattle.sms_centre_spec.proofs.forgetting.it_keeps_in_step.Goals as goal

pub returns : goal.returns
returns c = in_step
