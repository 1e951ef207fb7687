use Rattle.std.proofs.Common.{refl}
use Rattle.sms_centre_rows.specs.waiting.References.{handset_at}
use Rattle.sms_centre_rows.proofs.waiting.AllocationsSound.{give_sound}
use Rattle.sms_centre_rows.proofs.waiting.laws.an_allocation_is_sound.Goals as goal

pub returns : goal.returns
returns c = λ number hs rs reference now sound is small. give_sound number hs rs (handset_at number hs) reference now sound is refl small
