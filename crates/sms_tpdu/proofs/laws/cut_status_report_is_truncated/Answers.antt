use Rattle.sms_tpdu.proofs.CutReports.{status_report_cut}
use Rattle.sms_tpdu.proofs.laws.cut_status_report_is_truncated.Goals as goal

pub returns : goal.returns
returns c = status_report_cut
