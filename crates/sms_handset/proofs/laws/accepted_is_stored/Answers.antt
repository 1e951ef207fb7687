use Rattle.sms_handset.proofs.Accepting.{frame_stores}
use Rattle.sms_handset.proofs.laws.accepted_is_stored.Goals as goal

pub returns : goal.returns
returns c = frame_stores
