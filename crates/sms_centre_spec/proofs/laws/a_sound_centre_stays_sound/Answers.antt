use Rattle.sms_centre_spec.proofs.EventLaws.{stays_sound}
use Rattle.sms_centre_spec.proofs.laws.a_sound_centre_stays_sound.Goals as goal

pub returns : goal.returns
returns c = stays_sound
