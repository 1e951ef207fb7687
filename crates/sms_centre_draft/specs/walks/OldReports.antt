-- Status reports that were not answered for too long, in the order in which they were made.
use Rattle.std.specs.Prelude.{ℕ}
use Rattle.sms_rows.specs.table.Table.{rows_from}
use Rattle.sms_centre_rows.specs.reports.Reports.{report_key}
use Rattle.sms_centre_spec.specs.CentreEvent.{drop_all}
use Rattle.sms_centre_spec.specs.Draft.{Store, reports_in}

-- the old ones from a place on are dropped
abbrev pub drop_from : ℕ → Store → Store
drop_from first s = drop_all (rows_from report_key first (reports_in s)) s
