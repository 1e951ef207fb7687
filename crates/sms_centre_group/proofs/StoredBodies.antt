-- Of sound rows a group gives each TPDU that a centre asks for.
use Rattle.std.proofs.Common.{◌≡◌, ℕ, ◌<◌, true, List, Option, Some, None, refl, sym, ap, ◌∙◌, eq-eqb, arith}
use Rattle.std.specs.Prelude.{◌==◌, ◌/◌, ◌%◌}
use Rattle.std.proofs.lemmas.Bool.{cond-true, cond-false, eqb-true, ne_eqb}
use Rattle.sms_base.specs.Among.{Among}
use Rattle.sms_rows.specs.table.Keys.{pair_key}
use Rattle.sms_centre_rows.specs.messages.Messages.{part_key, part_reaching}
use Rattle.sms_centre_rows.specs.messages.SoundMessages.{IsPart}
use Rattle.sms_centre_rows.specs.declared.messages.part.PartRow.{PartRow}
use Rattle.sms_centre_rows.specs.reports.Reports.{is_status, report_key, report_reaching, status_tpdu}
use Rattle.sms_centre_rows.specs.declared.reports.report.ReportKind.{ReportKind}
use Rattle.sms_centre_rows.specs.declared.reports.report.ReportKind.TheVariants.{Receipt, Status, Unsent}
use Rattle.sms_centre_rows.specs.declared.reports.report.ReportRow.{ReportRow}
use Rattle.sms_centre_spec.proofs.SoundStores.{alone_from}
use Rattle.sms_centre_spec.specs.Draft.{rows_after}
use Rattle.sms_centre_spec.specs.SoundRows.{IsSound}
use Rattle.sms_centre_spec.specs.bodies.Storing.{GivesBodies}
use Rattle.sms_centre_spec.specs.declared.rows.Changes.{Changes}
use Rattle.sms_centre_spec.specs.declared.rows.Rows.{Rows}
use Rattle.sms_centre_spec.specs.octets.OctetsAt.{kind_octets, part_octets, report_octets}
use Rattle.sms_centre_group.specs.Grouping.{grouped_body}
use Rattle.sms_centre_group.specs.Newest.{first_of, is_part, is_report, newest, put_octets}
use Rattle.sms_centre_group.proofs.PutLast.{Found, one_of, put_or_kept}

module _ (body_of : Rows → ℕ → Option (List ℕ)) (gives : GivesBodies body_of) (base : Rows) (held : Changes) (sound : IsSound base) (after : IsSound (rows_after held base)) where
  part_found : (p : PartRow) (o : Option PartRow) → Found part_key part_reaching (λ q x. refl) (is_part (part_key p)) (λ (x : PartRow). x.tpdu) (λ q x. refl) (λ q x. refl) o base.parts p
      → first_of (part_octets o) (body_of base (part_key p)) ≡ Some p.tpdu
  part_found p (Some x) found = ap (λ (t : List ℕ). Some t) found
  part_found p None found = ap (λ (k : ℕ). body_of base k) (sym (eqb-true (part_key found.0) (part_key p) found.2)) ∙ gives.parts base sound found.0 found.1
      ∙ ap (λ (t : List ℕ). Some t) (sym found.3)

  pub part_given : (p : PartRow) → Among p (rows_after held base).parts → grouped_body body_of (base, held) (part_key p) ≡ Some p.tpdu
  part_given p there =
      let is : IsPart (rows_after held base).messages p = after.messages.each_part p there in
      let last : part_key p % 256 ≡ p.number = omega (arith, is.few) in
      let first : 0 < p.number = is.first in
      let n = part_key p in
      ap (λ (o : Option (List ℕ)). first_of o (body_of base n)) (cond-false (n % 256 == 0) (report_octets (newest report_key (is_report (n / 256)) held.reports))
      (part_octets (newest part_key (is_part n) held.parts)) (ne_eqb (n % 256) 0 (λ e. absurd (omega (arith, last, e, first)))))
      ∙ part_found p (newest part_key (is_part n) held.parts)
      (put_or_kept part_key part_reaching (λ q x. refl) (is_part n) (λ (x : PartRow). x.tpdu) (λ q x. refl) (λ q x. refl) held.parts base.parts p after.messages.part_keys there (eq-eqb n n refl)
      (λ a here same. one_of part_key (rows_after held base).parts after.messages.part_keys a p here there (eqb-true (part_key a) n same)) (newest part_key (is_part n) held.parts) refl)

  status_octets : (kind : ReportKind) → is_status kind ≡ true → kind_octets kind ≡ Some (status_tpdu kind)
  status_octets Receipt e = absurd cc
  status_octets (Status reference tpdu) e = refl
  status_octets Unsent e = absurd cc

  report_found : (r : ReportRow) → is_status r.kind ≡ true → (o : Option ReportRow)
      → Found report_key report_reaching (λ q x. refl) (is_report r.id) (λ (x : ReportRow). x.kind) (λ q x. refl) (λ q x. refl) o base.reports r
      → first_of (report_octets o) (body_of base (pair_key r.id 0)) ≡ Some (status_tpdu r.kind)
  report_found r status (Some x) found = ap (λ (k : ReportKind). first_of (kind_octets k) (body_of base (pair_key r.id 0))) found
      ∙ ap (λ (o : Option (List ℕ)). first_of o (body_of base (pair_key r.id 0))) (status_octets r.kind status)
  report_found r status None found = ap (λ (id : ℕ). body_of base (pair_key id 0)) (sym (eqb-true found.0.id r.id found.2))
      ∙ gives.reports base sound found.0 found.1 (ap (λ (k : ReportKind). is_status k) (sym found.3) ∙ status) ∙ ap (λ (k : ReportKind). Some (status_tpdu k)) (sym found.3)

  pub report_given : (r : ReportRow) → Among r (rows_after held base).reports → is_status r.kind ≡ true → grouped_body body_of (base, held) (pair_key r.id 0) ≡ Some (status_tpdu r.kind)
  report_given r there status =
      let n = pair_key r.id 0 in
      let last : n % 256 ≡ 0 = omega arith in
      let first : n / 256 ≡ r.id = omega arith in
      ap (λ (o : Option (List ℕ)). first_of o (body_of base n)) (cond-true (n % 256 == 0) (report_octets (newest report_key (is_report (n / 256)) held.reports))
      (part_octets (newest part_key (is_part n) held.parts)) (eq-eqb (n % 256) 0 last)
      ∙ ap (λ (id : ℕ). report_octets (newest report_key (is_report id) held.reports)) first)
      ∙ report_found r status (newest report_key (is_report r.id) held.reports)
      (put_or_kept report_key report_reaching (λ q x. refl) (is_report r.id) (λ (x : ReportRow). x.kind) (λ q x. refl) (λ q x. refl) held.reports base.reports r after.reports.keys there (eq-eqb r.id r.id refl)
      (λ a here same. alone_from (rows_after held base).messages (rows_after held base).reports after.reports a r here there (eqb-true a.id r.id same))
      (newest report_key (is_report r.id) held.reports) refl)
