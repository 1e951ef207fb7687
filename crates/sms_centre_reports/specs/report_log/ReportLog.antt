-- The log of reports: of each report that was made, in the order made, its place and its message.
use Rattle.std.specs.Prelude.{◌≡◌, ℕ, ◌+◌, ◌≤◌, ◌==◌, List, [], ◌∷◌, length, map, max, Bool, false}
use Rattle.sms_centre_rows.specs.declared.reports.report.ReportRow.{ReportRow}
use Rattle.sms_centre_reports.specs.declared.report_log.log.LoggedReport.{LoggedReport}
use Rattle.sms_centre_reports.specs.report_log.Places.{HoldsMore, PlacesOf}
use Rattle.sms_rows.specs.table.Table.{HasRoom, RowsInMemory}

abbrev pub made_key : LoggedReport → ℕ
made_key r = r.place

abbrev pub made_report : ReportRow → LoggedReport
made_report r = record { place = r.place; id = r.id }

-- the last one is that of the message
abbrev pub is_of_last : ℕ → List LoggedReport → Bool
is_of_last id [] = false
is_of_last id (r ∷ []) = r.id == id
is_of_last id (r ∷ s ∷ rs) = is_of_last id (s ∷ rs)

-- ---- in memory

-- the reports in the order made, and their places by their messages
pub record LogInMemory : Type 0 where
  pub reports : RowsInMemory LoggedReport
  pub places : PlacesOf

-- it is the log of these reports
abbrev pub Represents : LogInMemory → List ReportRow → Type 0
Represents log rows = log.reports.rows ≡ map made_report rows

-- that many reports can be put before memory is taken
pub record HasLogRoom (extra : ℕ) (log : LogInMemory) : Type 0 where
  pub reports : HasRoom extra log.reports
  pub places : extra ≤ log.places.room

-- memory beside a log's: for how many reports, and for how many messages
pub record LogReserve : Type 0 where
  pub reports : ℕ
  pub places : ℕ

-- with it that many changes of reports take no memory
pub record Suffices (changes : ℕ) (log : LogInMemory) (reserve : LogReserve) : Type 0 where
  pub reports : length log.reports.rows + changes ≤ max log.reports.capacity reserve.reports
  pub places : HoldsMore changes reserve.places log.places
