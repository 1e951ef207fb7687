-- What memory has of the reports, and which rows it represents.
use Rattle.std.specs.Prelude.{◌≡◌, ℕ, List, [], ◌∷◌, if◌then◌else◌, Option}
use Rattle.std.specs.Str.{bytes_eq}
use Rattle.sms_rows.specs.index.Picked.{pick_of, picked, set_at}
use Rattle.sms_rows.specs.table.Table.{Rises, row_at}
use Rattle.sms_centre_rows.specs.declared.messages.message.MessageRow.{MessageRow}
use Rattle.sms_centre_rows.specs.declared.reports.report.ReportRow.{ReportRow}
use Rattle.sms_centre_rows.specs.reports.Reports.{next_place, report_key, report_of}
use Rattle.sms_centre_rows.specs.reports.Waiting.{Alone}
use Rattle.sms_centre_reports.specs.declared.open_reports.entry.ReceiptEntry.{ReceiptEntry}
use Rattle.sms_centre_reports.specs.declared.open_reports.entry.ReportEntry.{ReportEntry}
use Rattle.sms_centre_reports.specs.declared.open_reports.entry.StatusEntry.{StatusEntry}
use Rattle.sms_centre_reports.specs.open_reports.Entries.{entry_key, open_entry, receipt_entry, receipt_key, status_entry}

-- the open receipts of an account
pub record AccountOf : Type 0 where
  pub name : List ℕ
  pub receipts : List ReceiptEntry

abbrev pub receipts_at : List ℕ → List AccountOf → List ReceiptEntry
receipts_at name [] = []
receipts_at name (a ∷ accounts) = if bytes_eq a.name name then a.receipts else receipts_at name accounts

pub record OpenReportsOf : Type 0 where
  -- the open reports, by messages
  pub open_reports : List ReportEntry
  -- the open status reports, in the order in which they were made
  pub statuses : List StatusEntry
  pub accounts : List AccountOf
  -- the place of the next report
  pub next : ℕ

-- It represents these rows, whose messages are those.
pub record Represents (messages : List MessageRow) (current : OpenReportsOf) (rows : List ReportRow) : Type 0 where
  pub keys : Rises report_key rows
  pub alone : Alone rows
  pub by_message : (id : ℕ) → row_at entry_key id current.open_reports ≡ pick_of open_entry (report_of id rows)
  pub statuses : current.statuses ≡ picked status_entry rows
  pub receipts : (name : List ℕ) → receipts_at name current.accounts ≡ picked (receipt_entry name messages) rows
  pub next : current.next ≡ next_place rows

-- ---- what becomes of it with a report

-- of the account's receipts that one is under the place, or none; all other accounts have theirs
pub record IsWithReceipt (name : List ℕ) (place : ℕ) (entry : Option ReceiptEntry) (before after : List AccountOf) : Type 0 where
  pub own : receipts_at name after ≡ set_at receipt_key place entry (receipts_at name before)
  pub others : (other : List ℕ) → ¬ (other ≡ name) → receipts_at other after ≡ receipts_at other before
