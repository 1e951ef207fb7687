use Rattle.sms_centre_reports.proofs.open_reports.Noting.{told_of_others}
use Rattle.sms_centre_reports.proofs.open_reports.laws.messages_may_change_in_an_event.Goals as goal

pub returns : goal.returns
returns c = told_of_others
