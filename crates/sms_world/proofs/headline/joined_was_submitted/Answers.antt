use Rattle.sms_world.proofs.headline.Claimed.{joined_is, joined_once_is, joined_whole_is}
use Rattle.sms_world.proofs.headline.joined_was_submitted.Goals as goal

pub returns : goal.returns
returns c = record { parts = joined_is; once = joined_once_is; whole = joined_whole_is }
