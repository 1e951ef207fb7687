use Rattle.sms_handset.proofs.SoundBeginnings.{first_sound}
use Rattle.sms_handset.proofs.laws.first_rows_are_sound.Goals as goal

pub returns : goal.returns
returns c = first_sound
