-- What a transfer was for, as it is found.
use Rattle.std.specs.Prelude.{◌≡◌, ℕ, ◌&&◌, not, is_some, if◌then◌else◌, false, true, Option, Some, None}
use Rattle.sms_centre_rows.specs.declared.messages.message.MessageRow.{MessageRow}
use Rattle.sms_centre_rows.specs.declared.messages.part.PartRow.{PartRow}
use Rattle.sms_centre_rows.specs.declared.messages.parts.PartEntry.{PartEntry}
use Rattle.sms_centre_rows.specs.messages.Messages.{is_pending, message_at, part_at}
use Rattle.sms_centre_rows.specs.messages.PartEntries.{part_entry}
use Rattle.sms_centre_rows.specs.declared.reports.report.ReportRow.{ReportRow}
use Rattle.sms_centre_rows.specs.reports.Reports.{is_open_status, report_of}
use Rattle.sms_centre_reports.specs.declared.open_reports.entry.ReportEntry.{ReportEntry}
use Rattle.sms_centre_reports.specs.open_reports.Entries.{report_entry}
use Rattle.sms_centre_spec.specs.Draft.{Store, messages_in, parts_in, reports_in}
use Rattle.sms_centre_spec.specs.Transfers.{is_open_part_at, is_open_status_at}

abbrev pub waiting_part : PartEntry → Option MessageRow → Option (PartEntry × MessageRow)
waiting_part entry None = None
waiting_part entry (Some m) = if not entry.progress.is_done && is_pending m then Some (entry, m) else None

abbrev pub waiting_status : ReportEntry → Option MessageRow → Option (ReportEntry × MessageRow)
waiting_status entry None = None
waiting_status entry (Some m) = if is_some entry.reference then Some (entry, m) else None

-- a part that waits, and its message
pub record IsWaiting (id number : ℕ) (entry : PartEntry) (m : MessageRow) (s : Store) (p : PartRow) : Type 0 where
  pub part : part_at id number (parts_in s) ≡ Some p
  pub own : part_at p.id p.number (parts_in s) ≡ Some p
  pub entry_is : part_entry p ≡ entry
  pub message : message_at p.id (messages_in s) ≡ Some m
  pub pending : is_pending m ≡ true
  pub undone : p.progress.is_done ≡ false

-- the part and its message where it waits, and else nothing
abbrev pub IsOpenPart : ℕ → ℕ → Store → Option (PartEntry × MessageRow) → Type 0
IsOpenPart id number s None = is_open_part_at (part_at id number (parts_in s)) s ≡ false
IsOpenPart id number s (Some found) = (p : PartRow) × IsWaiting id number found.0 found.1 s p

-- an open status report, and its message
pub record IsReporting (id : ℕ) (entry : ReportEntry) (m : MessageRow) (s : Store) (r : ReportRow) : Type 0 where
  pub report : report_of id (reports_in s) ≡ Some r
  pub own : report_of r.id (reports_in s) ≡ Some r
  pub entry_is : entry ≡ report_entry r
  pub waits : is_open_status r ≡ true
  pub message : message_at r.id (messages_in s) ≡ Some m

-- the open status report and its message, and else nothing
abbrev pub IsOpenStatus : ℕ → Store → Option (ReportEntry × MessageRow) → Type 0
IsOpenStatus id s None = is_open_status_at (report_of id (reports_in s)) ≡ false
IsOpenStatus id s (Some found) = (r : ReportRow) × IsReporting id found.0 found.1 s r
