use Rattle.sms_world.proofs.headline.Claimed.{sent_is}
use Rattle.sms_world.proofs.headline.sent_was_submitted.Goals as goal

pub returns : goal.returns
returns c = sent_is
