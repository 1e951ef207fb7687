use Rattle.sms_centre_rows.proofs.reports.Serving.{sent_somewhere}
use Rattle.sms_centre_rows.proofs.reports.laws.a_slow_session_holds_up_no_other.Goals as goal

pub returns : goal.returns
returns c = sent_somewhere
