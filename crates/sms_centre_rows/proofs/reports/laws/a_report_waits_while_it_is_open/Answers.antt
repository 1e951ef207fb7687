use Rattle.sms_rows.specs.table.Table.{put}
use Rattle.sms_centre_rows.specs.waiting.Revisions.{amended}
use Rattle.sms_centre_rows.specs.reports.Reports.{report_key, report_reaching}
use Rattle.sms_centre_rows.proofs.reports.ReportRows.{amended_alone, amended_other, amended_own, new_alone, new_report, new_report_other}
use Rattle.sms_centre_rows.proofs.reports.WaitingChanges.{report_changes}
use Rattle.sms_centre_rows.proofs.reports.laws.a_report_waits_while_it_is_open.Goals as goal

pub returns : goal.returns
returns c = record {
  put = λ h ms qs ps rs r numbered alone new. report_changes h ms qs ps rs (put report_key r rs) r numbered alone (new_alone r rs new alone) (new_report r rs new) (λ id ne. new_report_other id r rs new ne);
  amended = λ h ms qs ps rs r q numbered alone rises there.
      report_changes h ms qs ps rs (amended report_key report_reaching (report_key r) q rs) (report_reaching q r) numbered alone (amended_alone (report_key r) q rs alone) (amended_own r q rs there) (λ id ne. amended_other id r q rs rises there ne);
}
