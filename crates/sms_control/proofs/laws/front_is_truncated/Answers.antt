use Rattle.sms_control.proofs.ControlFrames.{front_cut}
use Rattle.sms_control.proofs.laws.front_is_truncated.Goals as goal

pub returns : goal.returns
returns c = front_cut
