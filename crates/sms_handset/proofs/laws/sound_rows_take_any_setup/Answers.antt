use Rattle.sms_handset.proofs.SoundBeginnings.{other_setup}
use Rattle.sms_handset.proofs.laws.sound_rows_take_any_setup.Goals as goal

pub returns : goal.returns
returns c = other_setup
