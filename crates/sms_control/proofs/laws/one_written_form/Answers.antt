use Rattle.sms_control.proofs.ControlFrames.{one_form}
use Rattle.sms_control.proofs.laws.one_written_form.Goals as goal

pub returns : goal.returns
returns c = one_form
