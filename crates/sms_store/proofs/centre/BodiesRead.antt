-- What one query reads of the octets.
use Rattle.std.proofs.Common.{◌≡◌, ℕ, ◌==◌, ◌/◌, ◌%◌, false, true, cond, List, [], ◌∷◌, filter, Option, Some, Result, Ok, Err, refl, sym, ap, ◌∙◌}
use Rattle.sqlite.specs.Effect.{Database}
use Rattle.sms_store_sql.specs.listing.Finding.{first_of}
use Rattle.sms_rows.specs.keep.KeepState.{KeepState}
use Rattle.sms_rows.specs.keep.StoreOutcome.{EndsWith}
use Rattle.sms_rows.specs.table.Table.{row_at}
use Rattle.sms_centre_rows.specs.messages.Messages.{part_key}
use Rattle.sms_centre_rows.specs.reports.Reports.{report_of}
use Rattle.sms_centre_spec.specs.octets.OctetsAt.{octets_at, part_octets, report_octets}
use Rattle.sms_store.specs.keeping.Stores.{IsStoreWith}
use Rattle.sms_store.specs.centre.CentreRows.{centre_stores}
use Rattle.sms_store.specs.centre.Reading.{FindsPart, FindsReports}
use Rattle.sms_store.specs.centre.Types.{PartRow, ReportRow, Rows, Setup}

first_report : (id : ℕ) (rs : List ReportRow) → first_of (filter (λ (r : ReportRow). r.id == id) rs) ≡ report_of id rs
first_report id [] = refl
first_report id (r ∷ rs) =
    elim (r.id == id) as (λ b. first_of (cond b (r ∷ filter (λ (x : ReportRow). x.id == id) rs) (filter (λ (x : ReportRow). x.id == id) rs)) ≡ cond b (Some r) (report_of id rs))
    [ true ↦ refl | false ↦ first_report id rs ]

module _ (db : Database) (setup : Setup) (rows : Rows) (is : IsStoreWith centre_stores setup db rows) (key : ℕ) (octets : Option (List ℕ)) where
  pub part_read : (part : Option PartRow) → (key % 256 == 0) ≡ false → FindsPart key db part → octets ≡ part_octets part → octets ≡ octets_at rows key
  part_read part other finds same =
      let here : octets_at rows key ≡ part_octets (row_at part_key key rows.parts) = ap (λ b. cond b (report_octets (report_of (key / 256) rows.reports)) (part_octets (row_at part_key key rows.parts))) other in
      same ∙ ap part_octets (finds rows.parts is.0.parts) ∙ sym here

  pub report_read : (reports : List ReportRow) → (key % 256 == 0) ≡ true → FindsReports (key / 256) db reports → octets ≡ report_octets (first_of reports) → octets ≡ octets_at rows key
  report_read reports zero finds same =
      let here : octets_at rows key ≡ report_octets (report_of (key / 256) rows.reports) = ap (λ b. cond b (report_octets (report_of (key / 256) rows.reports)) (part_octets (row_at part_key key rows.parts))) zero in
      same ∙ ap (λ rs. report_octets (first_of rs)) (finds rows.reports is.0.reports) ∙ ap report_octets (first_report (key / 256) rows.reports) ∙ sym here

-- a call whose answer is right ends also with what is right of each such answer
pub still_right : {Rows A E : Type 0} (P Q : A → Type 0) (rows : Rows) (after : KeepState Rows) (result : Result A E) → ((answer : A) → P answer → Q answer) → EndsWith P rows rows after result → EndsWith Q rows rows after result
still_right P Q rows after (Ok answer) so ends = (so answer ends.0, ends.1)
still_right P Q rows after (Err error) so ends = ends
