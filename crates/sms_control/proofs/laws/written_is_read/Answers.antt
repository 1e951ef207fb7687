use Rattle.std.proofs.Common.{refl}
use Rattle.sms_control.proofs.ControlFrames.{spelled_again}
use Rattle.sms_control.proofs.laws.written_is_read.Goals as goal

pub returns : goal.returns
returns c = λ cp h. (record { value = h; spells = refl }, spelled_again cp h)
