use Rattle.std.proofs.Common.{◌≡◌, List, drop}
use Rattle.sms_centre_rows.specs.declared.reports.report.ReportRow.{ReportRow}
use Rattle.sms_centre_rows.specs.reports.Reports.{report_of}
use Rattle.sms_centre_reports.specs.report_log.ReportLog.{Represents}
use Rattle.sms_centre_reports.proofs.report_log.log.ReportLog.search.Given as goal

-- the report is not one of those that were looked at
abbrev pub invariant-loop-place : goal.invariant-loop-place
invariant-loop-place l = (rows : List ReportRow) → Represents l.self rows → report_of l.id (drop l.place rows) ≡ report_of l.id rows
