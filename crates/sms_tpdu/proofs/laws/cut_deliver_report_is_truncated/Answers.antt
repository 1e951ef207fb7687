use Rattle.sms_tpdu.proofs.CutReports.{deliver_report_cut}
use Rattle.sms_tpdu.proofs.laws.cut_deliver_report_is_truncated.Goals as goal

pub returns : goal.returns
returns c = deliver_report_cut
