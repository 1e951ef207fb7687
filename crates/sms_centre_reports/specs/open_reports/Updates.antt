-- What becomes of the memory, with a report that is made or is so far.
use Rattle.std.specs.Prelude.{ℕ, List, [], ◌∷◌, if◌then◌else◌, Option, Some, None}
use Rattle.std.specs.Str.{bytes_eq}
use Rattle.sms_rows.specs.index.Picked.{set_at}
use Rattle.sms_centre_rows.specs.declared.reports.report.ReportKind.{ReportKind}
use Rattle.sms_centre_rows.specs.declared.reports.report.ReportKind.TheVariants.{Receipt, Status, Unsent}
use Rattle.sms_centre_rows.specs.declared.reports.report.ReportRow.{ReportRow}
use Rattle.sms_centre_reports.specs.declared.open_reports.entry.ReceiptEntry.{ReceiptEntry}
use Rattle.sms_centre_reports.specs.declared.open_reports.entry.ReportEntry.{ReportEntry}
use Rattle.sms_centre_reports.specs.declared.open_reports.entry.StatusEntry.{StatusEntry}
use Rattle.sms_centre_reports.specs.open_reports.Entries.{entry_key, receipt_key, report_entry, status_key, status_limit}
use Rattle.sms_centre_reports.specs.open_reports.OpenReports.{AccountOf, OpenReportsOf}
use Rattle.sms_centre_rows.specs.declared.waiting.progress.Progress.{Progress}
use Rattle.sms_centre_rows.specs.waiting.Trying.{later}

-- ---- accounts

abbrev pub alone_with : List ℕ → Option ReceiptEntry → List AccountOf
alone_with name None = []
alone_with name (Some e) = record { name = name; receipts = e ∷ [] } ∷ []

-- that one is under the place among the receipts of the account, or nothing
abbrev pub with_receipt : List ℕ → ℕ → Option ReceiptEntry → List AccountOf → List AccountOf
with_receipt name place entry [] = alone_with name entry
with_receipt name place entry (a ∷ accounts) =
    if bytes_eq a.name name then record { name = a.name; receipts = set_at receipt_key place entry a.receipts } ∷ accounts
    else a ∷ with_receipt name place entry accounts

-- ---- entries

abbrev pub entry_reaching : Progress → ReportEntry → ReportEntry
entry_reaching progress e = record e { progress = progress }

abbrev pub unless_done : ReportEntry → Option ReportEntry
unless_done e = if e.progress.is_done then None else Some e

abbrev pub receipt_of : ReportEntry → Option ReceiptEntry
receipt_of e = if e.progress.is_done then None else Some (record { place = e.place; id = e.id; due = e.progress.due })

abbrev pub status_of : ReportEntry → Option StatusEntry
status_of e = if e.progress.is_done then None else Some (record { place = e.place; id = e.id; until = later e.made status_limit })

-- ---- a report

abbrev pub keeping_receipt : List ℕ → ReportEntry → OpenReportsOf → OpenReportsOf
keeping_receipt name e current = record {
  open_reports = set_at entry_key e.id (unless_done e) current.open_reports;
  statuses = current.statuses;
  accounts = with_receipt name e.place (receipt_of e) current.accounts;
  next = current.next;
}

abbrev pub keeping_status : ReportEntry → OpenReportsOf → OpenReportsOf
keeping_status e current = record {
  open_reports = set_at entry_key e.id (unless_done e) current.open_reports;
  statuses = set_at status_key e.place (status_of e) current.statuses;
  accounts = current.accounts;
  next = current.next;
}

-- ---- a row that is read

abbrev pub keeping_of : ReportKind → List ℕ → ReportRow → OpenReportsOf → OpenReportsOf
keeping_of Receipt name r current = keeping_receipt name (report_entry r) current
keeping_of (Status reference tpdu) name r current = keeping_status (report_entry r) current
keeping_of Unsent name r current = current

-- what is closed is not in memory
abbrev pub keeping : List ℕ → ReportRow → OpenReportsOf → OpenReportsOf
keeping name r current = if r.progress.is_done then current else keeping_of r.kind name r current
