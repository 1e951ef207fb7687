use Rattle.sms_centre_reports.proofs.awaited.Awaiting.{none_awaited}
use Rattle.sms_centre_reports.proofs.awaited.laws.new_sessions_wait_for_nothing.Goals as goal

pub returns : goal.returns
returns c = none_awaited
