use Rattle.sms_centre_spec.proofs.Resting.{adopted_is}
use Rattle.sms_centre_spec.proofs.laws.what_is_adopted_is_what_happened.Goals as goal

pub returns : goal.returns
returns c = adopted_is
