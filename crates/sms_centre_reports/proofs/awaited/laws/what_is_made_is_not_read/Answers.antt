use Rattle.sms_centre_reports.proofs.awaited.AsDefined.{made_as}
use Rattle.sms_centre_reports.proofs.awaited.laws.what_is_made_is_not_read.Goals as goal

pub returns : goal.returns
returns c = made_as
