use Rattle.std.proofs.Common.{map, take}
use Rattle.sms_centre_rows.specs.declared.reports.report.ReportRow.{ReportRow}
use Rattle.sms_centre_rows.specs.declared.waiting.revision.Revision.{Revision}
use Rattle.sms_centre_rows.specs.reports.Reports.{report_key}
use Rattle.sms_centre_rows.specs.waiting.Revisions.{revision_key}
use Rattle.sms_centre_reports.specs.report_log.Places.{HasTaken, messages_at}
use Rattle.sms_centre_reports.specs.report_log.ReportLog.{made_key}
use Rattle.sms_centre_reports.proofs.report_log.places.Places.take_all.Given as goal

abbrev pub invariant-loop-change : goal.invariant-loop-change
invariant-loop-change l =
    HasTaken (messages_at made_key (map (λ (x : Revision ReportRow). revision_key report_key x) (take l.change-index l.changes)) l.reports.rows) l.initial.self l.self
