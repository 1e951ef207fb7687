use Rattle.sms_centre_spec.proofs.forgetting.Sound.{without_sound}
use Rattle.sms_centre_spec.proofs.forgetting.what_stays_is_sound.Goals as goal

pub returns : goal.returns
returns c = without_sound
