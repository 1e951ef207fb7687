-- What a centre is reached with that forgets messages: the place of a report, and that it may go.
use Rattle.std.specs.Prelude.{◌≡◌, ℕ, ◌+◌, ◌<◌, true, Option, Some, None}
use Rattle.std.specs.Option.{option_map}
use Rattle.sms_centre_rows.specs.declared.reports.report.ReportRow.{ReportRow}
use Rattle.sms_centre_rows.specs.reports.Reports.{next_place, report_of, reports_of}
use Rattle.sms_centre_rows.specs.waiting.Revisions.{Revised}
use Rattle.sms_centre_reports.specs.open_reports.OpenReportsDraft.{made_in}

-- the place of a report
abbrev pub place_of : Option ReportRow → Option ℕ
place_of o = option_map (λ r. r.place) o

-- the message's report is closed and is not the last one, or it has none, and the event made none of it
pub record CanRemove (id : ℕ) (t : Revised ReportRow) : Type 0 where
  pub closed : (r : ReportRow) → report_of id (reports_of t) ≡ Some r → r.progress.is_done ≡ true
  pub low : (r : ReportRow) → report_of id (reports_of t) ≡ Some r → r.place + 1 < next_place (reports_of t)
  pub unmade : made_in id t.news ≡ None
