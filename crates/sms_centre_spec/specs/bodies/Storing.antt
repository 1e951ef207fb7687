-- What a centre wants of its store.
use Rattle.std.specs.Prelude.{◌≡◌, ℕ, List, true, Option, Some}
use Rattle.sms_base.specs.Among.{Among}
use Rattle.sms_rows.specs.keep.KeepState.{KeepState}
use Rattle.sms_rows.specs.table.Keys.{pair_key}
use Rattle.sms_centre_rows.specs.messages.Messages.{part_key}
use Rattle.sms_centre_rows.specs.declared.messages.part.PartRow.{PartRow}
use Rattle.sms_centre_rows.specs.reports.Reports.{is_status, status_tpdu}
use Rattle.sms_centre_rows.specs.declared.reports.report.ReportRow.{ReportRow}
use Rattle.sms_centre_spec.specs.declared.rows.Changes.{Changes}
use Rattle.sms_centre_spec.specs.declared.rows.Rows.{Rows}
use Rattle.sms_centre_spec.specs.Draft.{rows_after}
use Rattle.sms_centre_spec.specs.SoundRows.{IsSound}

-- a commit makes of the rows what a centre's changes make of them
abbrev pub MakesTheChanges : (Changes → Rows → Rows) → Type 0
MakesTheChanges after = (changes : Changes) (rows : Rows) → after changes rows ≡ rows_after changes rows

-- if the store is honest, and was closed before the call
abbrev pub IfClosed : {Rows : Type 0} → KeepState Rows → KeepState Rows → Type 0 → Type 0
IfClosed before after claim = after.is_honest → before.is_closed → claim

-- Of sound rows each TPDU that a centre asks for is given. It is that of a part under the part's key, of a status report under that of
-- its message and number 0.
pub record GivesBodies (body_of : Rows → ℕ → Option (List ℕ)) : Type 0 where
  pub parts : (rows : Rows) → IsSound rows → (p : PartRow) → Among p rows.parts → body_of rows (part_key p) ≡ Some p.tpdu
  pub reports : (rows : Rows) → IsSound rows → (r : ReportRow) → Among r rows.reports → is_status r.kind ≡ true
      → body_of rows (pair_key r.id 0) ≡ Some (status_tpdu r.kind)
