use Rattle.sms_world.proofs.messages_have_origins.OriginClaims.{submit_is}
use Rattle.sms_world.proofs.messages_have_origins.submissions_stay_stored.Goals as goal

pub returns : goal.returns
returns c = submit_is
