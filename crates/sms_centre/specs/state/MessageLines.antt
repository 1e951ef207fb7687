-- The lines of messages and of their ends, one by one.
use Rattle.std.specs.Prelude.{ℕ, List, [], ◌∷◌, Option, Some, None}
use Rattle.sms_centre_rows.specs.declared.messages.message.MessageRow.{MessageRow}
use Rattle.sms_centre_rows.specs.messages.Messages.{message_at}
use Rattle.sms_centre_reports.specs.report_log.Reporting.{message_line, receipt_line}
use Rattle.sms_centre_rows.specs.declared.report_lines.ReceiptRow.{ReceiptRow}
use Rattle.sms_centre_rows.specs.declared.report_lines.ReportedMessage.{ReportedMessage}
use Rattle.sms_centre_rows.specs.declared.reports.report.ReportRow.{ReportRow}

abbrev pub line_at : Option MessageRow → List ReportedMessage
line_at None = []
line_at (Some m) = message_line m ∷ []

abbrev pub receipt_at : List MessageRow → Option ReportRow → List ReceiptRow
receipt_at messages None = []
receipt_at messages (Some r) = receipt_line (message_at r.id messages)
