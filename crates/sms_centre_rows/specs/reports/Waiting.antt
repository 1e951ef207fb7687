-- All that waits for a handset: parts of pending messages that aren't done, and open status reports, in the order of messages and
-- numbers.
use Rattle.std.specs.Prelude.{◌≡◌, ℕ, ◌&&◌, List, [], ◌∷◌, Bool, false, if◌then◌else◌, Option, Some, None}
use Rattle.sms_base.specs.Among.{Among}
use Rattle.std.specs.Str.{bytes_eq}
use Rattle.sms_rows.specs.table.Table.{put, without}
use Rattle.sms_centre_rows.specs.declared.messages.message.MessageRow.{MessageRow}
use Rattle.sms_centre_rows.specs.declared.messages.part.PartRow.{PartRow}
use Rattle.sms_centre_rows.specs.declared.messages.priority.PriorityRow.{PriorityRow}
use Rattle.sms_centre_rows.specs.messages.Messages.{message_at}
use Rattle.sms_centre_rows.specs.messages.OpenParts.{parts_waiting}
use Rattle.sms_centre_rows.specs.declared.reports.report.ReportRow.{ReportRow}
use Rattle.sms_centre_rows.specs.reports.Reports.{is_open_status, status_reference}
use Rattle.sms_centre_rows.specs.declared.waiting.queued_part.QueuedPart.{QueuedPart}
use Rattle.sms_centre_rows.specs.waiting.Keys.{queued_key}

-- it is for the handset that sent the message
abbrev pub reports_to : List ℕ → ReportRow → Option MessageRow → Bool
reports_to handset r None = false
reports_to handset r (Some m) = is_open_status r && bytes_eq m.source.digits handset

-- number 0, and the lowest priority
abbrev pub report_queued : ReportRow → QueuedPart
report_queued r = record { id = r.id; number = 0; reference = status_reference r.kind; priority = 0; due = r.progress.due }

abbrev pub with_reports : List ℕ → List MessageRow → List ReportRow → List QueuedPart → List QueuedPart
with_reports handset messages [] all_queued = all_queued
with_reports handset messages (r ∷ rs) all_queued =
    if reports_to handset r (message_at r.id messages) then put queued_key (report_queued r) (with_reports handset messages rs all_queued)
    else with_reports handset messages rs all_queued

abbrev pub waiting_for : List ℕ → List MessageRow → List PriorityRow → List PartRow → List ReportRow → List QueuedPart
waiting_for handset messages priorities parts reports =
    with_reports handset messages reports (parts_waiting handset messages priorities parts)

-- ---- what becomes of it

-- what waits of a status report, if it is there
abbrev pub report_wait : List ℕ → List MessageRow → Option ReportRow → Option QueuedPart
report_wait handset messages None = None
report_wait handset messages (Some r) = if reports_to handset r (message_at r.id messages) then Some (report_queued r) else None

-- under the key waits that, or nothing
abbrev pub waiting_as : ℕ → Option QueuedPart → List QueuedPart → List QueuedPart
waiting_as key None all_queued = without queued_key key all_queued
waiting_as key (Some l) all_queued = put queued_key l all_queued

-- no message has two reports
abbrev pub Alone : List ReportRow → Type 0
Alone reports = (r s : ReportRow) → Among r reports → Among s reports → r.id ≡ s.id → r ≡ s

-- no other report has its place, and no other is of its message
pub record IsReportApart (reports : List ReportRow) (r : ReportRow) : Type 0 where
  pub place : (s : ReportRow) → Among s reports → ¬ (s.place ≡ r.place)
  pub message : (s : ReportRow) → Among s reports → ¬ (s.id ≡ r.id)
