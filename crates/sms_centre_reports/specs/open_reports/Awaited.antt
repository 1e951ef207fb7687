-- Receipts that were sent and not answered yet: they are open, of messages of that account.
use Rattle.std.specs.Prelude.{◌≡◌, ℕ, List, true, Some}
use Rattle.sms_centre_rows.specs.declared.messages.message.MessageRow.{MessageRow}
use Rattle.sms_centre_rows.specs.messages.Messages.{message_at}
use Rattle.sms_centre_rows.specs.declared.reports.report.ReportRow.{ReportRow}
use Rattle.sms_centre_rows.specs.reports.Reports.{is_open_receipt, report_of}
use Rattle.sms_centre_reports.specs.open_reports.Entries.{account_in}

pub record IsAwaited (messages : List MessageRow) (rows : List ReportRow) (account : List ℕ) (id : ℕ) : Type 0 where
  pub report : (r : ReportRow) × ((report_of id rows ≡ Some r) × (is_open_receipt r ≡ true))
  pub account_is : account_in (message_at id messages) ≡ Some account
