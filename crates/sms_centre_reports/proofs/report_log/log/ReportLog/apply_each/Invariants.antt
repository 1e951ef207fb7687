use Rattle.std.proofs.Common.{List, ◌-◌, length, take}
use Rattle.sms_centre_rows.specs.declared.reports.report.ReportRow.{ReportRow}
use Rattle.sms_centre_rows.specs.reports.Reports.{report_key, report_reaching}
use Rattle.sms_centre_rows.specs.waiting.Revisions.{all_revised}
use Rattle.sms_centre_reports.specs.report_log.ReportLog.{HasLogRoom, Represents}
use Rattle.sms_centre_reports.proofs.report_log.log.ReportLog.apply_each.Given as goal

abbrev pub invariant-loop-change : goal.invariant-loop-change
invariant-loop-change l =
    HasLogRoom (length l.changes - l.change-index) l.self
    × ((rows : List ReportRow) → Represents l.initial.self rows → Represents l.self (all_revised report_key report_reaching (take l.change-index l.changes) rows))
