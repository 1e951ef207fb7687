use Rattle.sms_world.proofs.headline.HeadlineHolds.{headline_is}
use Rattle.sms_world.proofs.headline.every_report_has_the_headline.Goals as goal

pub returns : goal.returns
returns c = headline_is
