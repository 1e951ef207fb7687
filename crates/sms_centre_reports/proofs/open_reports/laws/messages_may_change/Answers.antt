use Rattle.sms_centre_reports.proofs.open_reports.Keeping.{other_messages}
use Rattle.sms_centre_reports.proofs.open_reports.laws.messages_may_change.Goals as goal

pub returns : goal.returns
returns c = other_messages
