use Rattle.sms_centre_spec.proofs.forgetting.Everywhere.{event_same}
use Rattle.sms_centre_spec.proofs.forgetting.forgetting_is_invisible.Goals as goal

pub returns : goal.returns
returns c = event_same
