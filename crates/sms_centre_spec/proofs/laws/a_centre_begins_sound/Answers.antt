use Rattle.sms_centre_spec.proofs.SoundBegins.{first_sound, recovered_sound, started_sound}
use Rattle.sms_centre_spec.proofs.laws.a_centre_begins_sound.Goals as goal

pub returns : goal.returns
returns c = record { recovered = recovered_sound; started = started_sound; first = first_sound }
