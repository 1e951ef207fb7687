-- The TPDUs that a store gives of the rows that it holds.
use Rattle.std.specs.Prelude.{◌≡◌, ℕ, List, true, Option, Some}
use Rattle.sms_base.specs.Among.{Among}
use Rattle.sms_rows.specs.table.Keys.{pair_key}
use Rattle.sms_centre_rows.specs.declared.messages.part.PartRow.{PartRow}
use Rattle.sms_centre_rows.specs.messages.Messages.{part_key}
use Rattle.sms_centre_rows.specs.declared.reports.report.ReportRow.{ReportRow}
use Rattle.sms_centre_rows.specs.reports.Reports.{is_status, status_tpdu}
use Rattle.sms_centre_spec.specs.declared.rows.Rows.{Rows}

-- Of a part it gives the TPDU under the part's key, of a status report under that of its message and number 0.
pub record StoresRows (body : ℕ → Option (List ℕ)) (rows : Rows) : Type 0 where
  pub parts : (p : PartRow) → Among p rows.parts → body (part_key p) ≡ Some p.tpdu
  pub reports : (r : ReportRow) → Among r rows.reports → is_status r.kind ≡ true → body (pair_key r.id 0) ≡ Some (status_tpdu r.kind)
