-- A report that is made, or is so far: all others are as before.
use Rattle.std.specs.Prelude.{◌≡◌, ℕ, List, Some}
use Rattle.sms_rows.specs.table.Table.{Rises, row_at}
use Rattle.sms_centre_rows.specs.declared.reports.report.ReportRow.{ReportRow}
use Rattle.sms_centre_rows.specs.reports.Reports.{report_key, report_of}
use Rattle.sms_centre_rows.specs.reports.Waiting.{Alone}

pub record Became (before after : List ReportRow) (r : ReportRow) : Type 0 where
  pub keys : Rises report_key after
  pub alone : Alone after
  -- looked up by its message
  pub here : report_of r.id after ≡ Some r
  pub others : (id : ℕ) → ¬ (r.id ≡ id) → report_of id after ≡ report_of id before
  -- looked up by its place
  pub at : row_at report_key r.place after ≡ Some r
  pub elsewhere : (n : ℕ) → ¬ (r.place ≡ n) → row_at report_key n after ≡ row_at report_key n before
  -- what was there was it
  pub was : (b : ReportRow) → row_at report_key r.place before ≡ Some b → (b.id ≡ r.id) × (b.kind ≡ r.kind)
