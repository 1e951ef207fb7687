-- Status reports that are dropped, since they were not answered for too long.
use Rattle.std.specs.Prelude.{ℕ, ◌&&◌, nat_le, List, [], ◌∷◌, Bool, if◌then◌else◌}
use Rattle.sms_centre_rows.specs.declared.reports.report.ReportRow.{ReportRow}
use Rattle.sms_centre_rows.specs.reports.Reports.{amend_report, is_open_status}
use Rattle.sms_centre_reports.specs.open_reports.Entries.{status_limit}
use Rattle.sms_centre_rows.specs.waiting.Revisions.{Revised}
use Rattle.sms_centre_rows.specs.waiting.Trying.{finished, later}

abbrev pub is_old : ℕ → ReportRow → Bool
is_old moment r = is_open_status r && nat_le (later r.made status_limit) moment

-- in the order in which they were made
abbrev pub drop_old : ℕ → List ReportRow → Revised ReportRow → Revised ReportRow
drop_old moment [] t = t
drop_old moment (r ∷ rs) t = drop_old moment rs (if is_old moment r then amend_report r (finished r.progress) t else t)
