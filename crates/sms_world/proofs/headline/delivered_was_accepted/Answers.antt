use Rattle.sms_world.proofs.headline.Claimed.{delivered_is, told_is}
use Rattle.sms_world.proofs.headline.HeadlineHolds.{parts_once_is}
use Rattle.sms_world.proofs.headline.delivered_was_accepted.Goals as goal

pub returns : goal.returns
returns c = record { delivered = delivered_is; reported = told_is; once = parts_once_is }
