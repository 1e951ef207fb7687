use Rattle.std.proofs.Common.{◌≡◌, List, take}
use Rattle.sms_centre_messages.specs.message_index.MessageIndex.{Represents}
use Rattle.sms_centre_rows.specs.declared.messages.message.MessageRow.{MessageRow}
use Rattle.sms_centre_rows.specs.declared.messages.part.PartRow.{PartRow}
use Rattle.sms_centre_reports.specs.report_log.ReportLog.{Represents as LogRepresents}
use Rattle.sms_centre_reports.specs.report_log.Reporting.{receipt_lines}
use Rattle.sms_centre_rows.specs.declared.reports.report.ReportRow.{ReportRow}
use Rattle.sms_centre.proofs.state.reporting.receipt_lines.Given as goal

abbrev pub invariant-loop-place : goal.invariant-loop-place
invariant-loop-place l =
    (ms : List MessageRow) (ps : List PartRow) (rows : List ReportRow) → Represents l.messages ms ps → LogRepresents l.log rows → l.lines ≡ receipt_lines ms (take l.place rows)
