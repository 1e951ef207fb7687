use Rattle.sms_world.proofs.headline.Claimed.{once_is, receipts_are}
use Rattle.sms_world.proofs.headline.HeadlineHolds.{receipts_stay_is}
use Rattle.sms_world.proofs.headline.receipts_state_how_it_ended.Goals as goal

pub returns : goal.returns
returns c = record { state = receipts_are; once = once_is; stay = receipts_stay_is }
