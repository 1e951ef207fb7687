-- What memory has of reports in the middle of an event.
use Rattle.std.specs.Prelude.{◌≡◌, ℕ, zero, suc, ◌+◌, ◌==◌, ◌||◌, length, List, [], ◌∷◌, ◌++◌, Bool, false, if◌then◌else◌, Option, Some, None}
use Rattle.sms_rows.specs.table.Table.{put, row_at}
use Rattle.sms_centre_rows.specs.declared.messages.message.MessageRow.{MessageRow}
use Rattle.sms_centre_rows.specs.declared.reports.report.ReportKind.{ReportKind}
use Rattle.sms_centre_rows.specs.declared.reports.report.ReportRow.{ReportRow}
use Rattle.sms_centre_rows.specs.reports.Reports.{report_of, reports_of, status_tpdu}
use Rattle.sms_centre_reports.specs.declared.open_reports.made.MadeEntry.{MadeEntry}
use Rattle.sms_centre_reports.specs.open_reports.OpenReports.{OpenReportsOf, Represents}
use Rattle.sms_centre_rows.specs.declared.waiting.revision.Revision.{Revision}
use Rattle.sms_centre_rows.specs.declared.waiting.revision.Revision.TheVariants.{Put, Amend, Remove}
use Rattle.sms_centre_rows.specs.declared.waiting.progress.Progress.{Progress}
use Rattle.sms_centre_rows.specs.waiting.Revisions.{Revised, oldest_first}

-- ---- the reports that an event makes

-- the row that a change puts
abbrev pub put_of : Revision ReportRow → Option ReportRow
put_of (Put r) = Some r
put_of (Amend n progress) = None
put_of (Remove n) = None

-- the row that the change at a place puts, counted from 0
abbrev pub put_at : ℕ → List (Revision ReportRow) → Option ReportRow
put_at place [] = None
put_at zero (change ∷ changes) = put_of change
put_at (suc place) (change ∷ changes) = put_at place changes

-- the report of the message that the event made, if it made one
abbrev pub made_in : ℕ → List (Revision ReportRow) → Option ReportRow
made_in id [] = None
made_in id (Put r ∷ news) = if r.id == id then Some r else made_in id news
made_in id (Amend n progress ∷ news) = made_in id news
made_in id (Remove n ∷ news) = made_in id news

-- whether it made one
abbrev pub is_made : ℕ → List (Revision ReportRow) → Bool
is_made id [] = false
is_made id (Put r ∷ news) = (r.id == id) || is_made id news
is_made id (Amend n progress ∷ news) = is_made id news
is_made id (Remove n ∷ news) = is_made id news

-- the octets of a status report
abbrev pub tpdu_in : Option ReportRow → List ℕ
tpdu_in None = []
tpdu_in (Some r) = status_tpdu r.kind

-- the octets of the message's report, if the event made it; the octets of all others are in the store
abbrev pub tpdu_made : ℕ → Revised ReportRow → Option (List ℕ)
tpdu_made id t = if is_made id t.news then Some (tpdu_in (report_of id (reports_of t))) else None

abbrev pub made_key : MadeEntry → ℕ
made_key m = m.id

-- It is noted at which of the changes the report is made, or none is made.
abbrev pub IsNotedAs : Option MadeEntry → ℕ → List (Revision ReportRow) → List (Revision ReportRow) → Type 0
IsNotedAs None id changes news = made_in id news ≡ None
IsNotedAs (Some m) id changes news = (r : ReportRow) × ((made_in id news ≡ Some r) × (put_at m.at changes ≡ Some r))

-- a report that was made is there, of its kind
abbrev pub Stays : Option ReportRow → Option ReportRow → Type 0
Stays None there = Unit {0}
Stays (Some r) there = (x : ReportRow) × ((there ≡ Some x) × (x.kind ≡ r.kind))

-- ---- in the middle of an event

pub record OpenReportsDraftOf : Type 0 where
  pub current : OpenReportsOf
  -- what the event changed, the oldest first
  pub changes : List (Revision ReportRow)
  -- which of the changes are the reports that it made, by messages
  pub made : List MadeEntry

-- it represents those rows in the middle of the event, and the changes are theirs
pub record DraftRepresents (messages : List MessageRow) (p : OpenReportsDraftOf) (t : Revised ReportRow) : Type 0 where
  pub current : Represents messages p.current (reports_of t)
  pub changes : p.changes ≡ oldest_first t.news
  pub noted : (id : ℕ) → IsNotedAs (row_at made_key id p.made) id p.changes t.news
  pub stay : (id : ℕ) → Stays (made_in id t.news) (report_of id (reports_of t))

-- a report as it is made
abbrev pub made_row : ℕ → ℕ → ReportKind → Bool → ℕ → ReportRow
made_row place id kind is_closed made =
    record { place = place; id = id; kind = kind; made = made; progress = record { is_done = is_closed; attempts = 0; due = made } }

-- the row is put among the changes
abbrev pub noting : ReportRow → OpenReportsDraftOf → OpenReportsDraftOf
noting row p = record {
  current = p.current;
  changes = p.changes ++ Put row ∷ [];
  made = put made_key (record { id = row.id; at = length p.changes }) p.made;
}

-- the row is put, behind all others
abbrev pub putting : ReportRow → OpenReportsOf → OpenReportsDraftOf → OpenReportsDraftOf
putting row current p = record (noting row p) { current = record current { next = p.current.next + 1 } }

-- the row of that place is so far
abbrev pub amending : ℕ → Progress → OpenReportsOf → OpenReportsDraftOf → OpenReportsDraftOf
amending place progress current p = record { current = current; changes = p.changes ++ Amend place progress ∷ []; made = p.made }
