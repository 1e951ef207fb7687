-- What is found under a key.
use Rattle.std.proofs.Common.{◌≡◌, ℕ, ◌<◌, arith, List, [], ◌∷◌, Option, Some, refl, sym, ◌∙◌, ap, inl, inr, ⊎_elim, true}
use Rattle.std.specs.Prelude.{◌==◌, ◌/◌, ◌%◌}
use Rattle.std.proofs.lemmas.Bool.{cases_eq, cond-true, cond-false, ne_eqb}
use Rattle.std.proofs.Common.{eq-eqb}
use Rattle.sms_base.specs.Among.{Among}
use Rattle.sms_rows.specs.table.Keys.{pair_key}
use Rattle.sms_rows.specs.table.Table.{row_at}
use Rattle.sms_rows.proofs.table.Tables.{among_found}
use Rattle.sms_centre_rows.specs.messages.Messages.{part_key}
use Rattle.sms_centre_rows.specs.messages.SoundMessages.{IsPart}
use Rattle.sms_centre_rows.specs.declared.messages.part.PartRow.{PartRow}
use Rattle.sms_centre_rows.specs.reports.Reports.{is_status, report_of, status_tpdu}
use Rattle.sms_centre_rows.specs.reports.Waiting.{Alone}
use Rattle.sms_centre_rows.specs.declared.reports.report.ReportKind.{ReportKind}
use Rattle.sms_centre_rows.specs.declared.reports.report.ReportKind.TheVariants.{Receipt, Status, Unsent}
use Rattle.sms_centre_rows.specs.declared.reports.report.ReportRow.{ReportRow}
use Rattle.sms_centre_rows.proofs.reports.AllWaiting.{report_behind, report_here}
use Rattle.sms_centre_spec.proofs.SoundStores.{alone_from}
use Rattle.sms_centre_spec.specs.SoundRows.{IsSound}
use Rattle.sms_centre_spec.specs.declared.rows.Rows.{Rows}
use Rattle.sms_centre_spec.specs.bodies.Storing.{GivesBodies}
use Rattle.sms_centre_spec.specs.octets.OctetsAt.{kind_octets, octets_at, part_octets, report_octets}

-- ---- a part

pub part_body : (rows : Rows) → IsSound rows → (p : PartRow) → Among p rows.parts → octets_at rows (part_key p) ≡ Some p.tpdu
part_body rows sound p there =
    let is : IsPart rows.messages p = sound.messages.each_part p there in
    let last : part_key p % 256 ≡ p.number = omega (arith, is.few) in
    let first : 0 < p.number = is.first in
    cond-false (part_key p % 256 == 0) (report_octets (report_of (part_key p / 256) rows.reports)) (part_octets (row_at part_key (part_key p) rows.parts))
    (ne_eqb (part_key p % 256) 0 (λ e. absurd (omega (arith, last, e, first))))
    ∙ ap (λ (o : Option PartRow). part_octets o) (among_found part_key p rows.parts sound.messages.part_keys there)

-- ---- a status report

pub alone_found : (r : ReportRow) (rs : List ReportRow) → Alone rs → Among r rs → report_of r.id rs ≡ Some r
alone_found r [] alone there = absurd there
alone_found r (s ∷ rs) alone there = ⊎_elim
    (λ (e : s.id ≡ r.id). report_here r.id s rs e ∙ ap (λ (x : ReportRow). Some x) (alone s r (inl refl) there e))
    (λ (e : s.id ≡ r.id → ⊥). report_behind r.id s rs e ∙ ⊎_elim
    (λ (q : r ≡ s). absurd (e (ap (λ (x : ReportRow). x.id) (sym q))))
    (λ (q : Among r rs). alone_found r rs (λ a b m n. alone a b (inr m) (inr n)) q)
    there)
    (cases_eq s.id r.id)

status_octets : (kind : ReportKind) → is_status kind ≡ true → kind_octets kind ≡ Some (status_tpdu kind)
status_octets Receipt e = absurd cc
status_octets (Status reference tpdu) e = refl
status_octets Unsent e = absurd cc

pub report_body : (rows : Rows) → IsSound rows → (r : ReportRow) → Among r rows.reports → is_status r.kind ≡ true → octets_at rows (pair_key r.id 0) ≡ Some (status_tpdu r.kind)
report_body rows sound r there status =
    let last : pair_key r.id 0 % 256 ≡ 0 = omega arith in
    let first : pair_key r.id 0 / 256 ≡ r.id = omega arith in
    cond-true (pair_key r.id 0 % 256 == 0) (report_octets (report_of (pair_key r.id 0 / 256) rows.reports)) (part_octets (row_at part_key (pair_key r.id 0) rows.parts))
    (eq-eqb (pair_key r.id 0 % 256) 0 last)
    ∙ ap (λ (id : ℕ). report_octets (report_of id rows.reports)) first
    ∙ ap (λ (o : Option ReportRow). report_octets o) (alone_found r rows.reports (alone_from rows.messages rows.reports sound.reports) there)
    ∙ status_octets r.kind status

-- ---- both

-- a store that answers with the octets of its rows gives each TPDU that a centre asks for
pub bodies_given : GivesBodies octets_at
bodies_given = record { parts = part_body; reports = report_body }
