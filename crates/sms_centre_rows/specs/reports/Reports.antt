-- Receipts and status reports, in the order in which they were made.
use Rattle.std.specs.Prelude.{ℕ, ◌+◌, ◌==◌, ◌&&◌, not, List, [], ◌∷◌, Bool, true, false, if◌then◌else◌, Option, Some, None}
use Rattle.sms_centre_rows.specs.declared.reports.report.ReportKind.{ReportKind}
use Rattle.sms_centre_rows.specs.declared.reports.report.ReportKind.TheVariants.{Receipt, Status, Unsent}
use Rattle.sms_centre_rows.specs.declared.reports.report.ReportRow.{ReportRow}
use Rattle.sms_centre_rows.specs.declared.waiting.progress.Progress.{Progress}
use Rattle.sms_centre_rows.specs.waiting.Revisions.{Revised, put_in, amend_in, rows_of}

abbrev pub report_key : ReportRow → ℕ
report_key r = r.place

-- the report, so far
abbrev pub report_reaching : Progress → ReportRow → ReportRow
report_reaching progress r = record r { progress = progress }

-- ---- in the middle of an event

abbrev pub reports_of : Revised ReportRow → List ReportRow
reports_of t = rows_of report_key report_reaching t

abbrev pub put_report : ReportRow → Revised ReportRow → Revised ReportRow
put_report r t = put_in r t

abbrev pub amend_report : ReportRow → Progress → Revised ReportRow → Revised ReportRow
amend_report r progress t = amend_in (report_key r) progress t

-- ---- looked up

-- the report of a message
abbrev pub report_of : ℕ → List ReportRow → Option ReportRow
report_of id [] = None
report_of id (r ∷ rs) = if r.id == id then Some r else report_of id rs

abbrev pub place_after : ℕ → List ReportRow → ℕ
place_after place [] = place
place_after place (r ∷ rs) = place_after (r.place + 1) rs

-- the place after the last
abbrev pub next_place : List ReportRow → ℕ
next_place rs = place_after 1 rs

-- ---- what they are

abbrev pub is_receipt : ReportKind → Bool
is_receipt Receipt = true
is_receipt (Status reference tpdu) = false
is_receipt Unsent = false

abbrev pub is_status : ReportKind → Bool
is_status Receipt = false
is_status (Status reference tpdu) = true
is_status Unsent = false

-- the reference that it is sent under, and the octets that are sent
abbrev pub status_reference : ReportKind → ℕ
status_reference Receipt = 0
status_reference (Status reference tpdu) = reference
status_reference Unsent = 0

abbrev pub status_tpdu : ReportKind → List ℕ
status_tpdu Receipt = []
status_tpdu (Status reference tpdu) = tpdu
status_tpdu Unsent = []

-- neither answered nor dropped
abbrev pub is_open_receipt : ReportRow → Bool
is_open_receipt r = is_receipt r.kind && not r.progress.is_done

abbrev pub is_open_status : ReportRow → Bool
is_open_status r = is_status r.kind && not r.progress.is_done

-- ---- making one

abbrev pub report_made : ℕ → ReportKind → Bool → ℕ → Revised ReportRow → Revised ReportRow
report_made id kind is_closed moment t = put_report (record {
  place = next_place (reports_of t);
  id = id;
  kind = kind;
  made = moment;
  progress = record { is_done = is_closed; attempts = 0; due = moment };
}) t
