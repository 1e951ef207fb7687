use Rattle.sms_world.proofs.headline.HeadlineHolds.{confirmed_is, reports_say_is, status_is}
use Rattle.sms_world.proofs.headline.what_is_confirmed_is_there.Goals as goal

pub returns : goal.returns
returns c = record { messages = confirmed_is; status_reports = status_is; told = reports_say_is }
