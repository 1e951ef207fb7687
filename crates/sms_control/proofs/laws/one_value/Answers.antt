use Rattle.sms_control.proofs.ControlFrames.{one_reading}
use Rattle.sms_control.proofs.laws.one_value.Goals as goal

pub returns : goal.returns
returns c = one_reading
