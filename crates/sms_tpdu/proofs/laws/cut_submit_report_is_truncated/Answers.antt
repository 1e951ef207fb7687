use Rattle.sms_tpdu.proofs.CutReports.{submit_report_cut}
use Rattle.sms_tpdu.proofs.laws.cut_submit_report_is_truncated.Goals as goal

pub returns : goal.returns
returns c = submit_report_cut
