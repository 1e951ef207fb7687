-- What memory has of the reports that are open.
use Rattle.std.specs.Prelude.{ℕ, ◌&&◌, ◌||◌, List, Bool, false, if◌then◌else◌, Option, Some, None}
use Rattle.std.specs.Str.{bytes_eq}
use Rattle.sms_centre_rows.specs.declared.messages.message.MessageRow.{MessageRow}
use Rattle.sms_base.specs.declared.originator.Originator.{Originator}
use Rattle.sms_base.specs.declared.originator.Originator.TheVariants.{Application, Handset}
use Rattle.sms_centre_rows.specs.messages.Messages.{message_at}
use Rattle.sms_centre_rows.specs.declared.reports.report.ReportKind.{ReportKind}
use Rattle.sms_centre_rows.specs.declared.reports.report.ReportKind.TheVariants.{Receipt, Status, Unsent}
use Rattle.sms_centre_rows.specs.declared.reports.report.ReportRow.{ReportRow}
use Rattle.sms_centre_rows.specs.reports.Reports.{is_open_receipt, is_open_status}
use Rattle.sms_centre_reports.specs.declared.open_reports.entry.ReceiptEntry.{ReceiptEntry}
use Rattle.sms_centre_reports.specs.declared.open_reports.entry.ReportEntry.{ReportEntry}
use Rattle.sms_centre_reports.specs.declared.open_reports.entry.StatusEntry.{StatusEntry}
use Rattle.sms_centre_rows.specs.waiting.Trying.{later}

-- ---- by messages

abbrev pub entry_key : ReportEntry → ℕ
entry_key e = e.id

abbrev pub reference_of : ReportKind → Option ℕ
reference_of Receipt = None
reference_of (Status reference tpdu) = Some reference
reference_of Unsent = None

abbrev pub report_entry : ReportRow → ReportEntry
report_entry r = record { id = r.id; place = r.place; reference = reference_of r.kind; made = r.made; progress = r.progress }

abbrev pub is_open : ReportRow → Bool
is_open r = is_open_receipt r || is_open_status r

abbrev pub open_entry : ReportRow → Option ReportEntry
open_entry r = if is_open r then Some (report_entry r) else None

-- ---- status reports by place

-- seconds until a status report is dropped
abbrev pub status_limit : ℕ
status_limit = 172800

abbrev pub status_key : StatusEntry → ℕ
status_key e = e.place

abbrev pub status_until : StatusEntry → ℕ
status_until e = e.until

abbrev pub status_entry : ReportRow → Option StatusEntry
status_entry r = if is_open_status r then Some (record { place = r.place; id = r.id; until = later r.made status_limit }) else None

-- ---- receipts of an account by place

-- the account of an application's message
abbrev pub account_of : Originator → Option (List ℕ)
account_of (Application account) = Some account
account_of (Handset message_reference) = None

abbrev pub account_in : Option MessageRow → Option (List ℕ)
account_in None = None
account_in (Some m) = account_of m.originator

abbrev pub is_named : List ℕ → Option (List ℕ) → Bool
is_named name None = false
is_named name (Some account) = bytes_eq account name

abbrev pub receipt_key : ReceiptEntry → ℕ
receipt_key e = e.place

abbrev pub receipt_due : ReceiptEntry → ℕ
receipt_due e = e.due

abbrev pub receipt_entry : List ℕ → List MessageRow → ReportRow → Option ReceiptEntry
receipt_entry name messages r =
    if is_open_receipt r && is_named name (account_in (message_at r.id messages)) then Some
    (record { place = r.place; id = r.id; due = r.progress.due }) else None
