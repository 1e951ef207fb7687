-- How far parts and reports are, the world does not show, but for which are done.
use Rattle.std.proofs.Common.{◌≡◌, ℕ, List, true, refl, sym, ◌∙◌, ap, subst, ⊎_elim, Option, Some, None}
use Rattle.std.specs.Option.{option_map}
use Rattle.std.proofs.lemmas.Bool.{cases_eq}
use Rattle.sms_rows.specs.table.Keys.{pair_key}
use Rattle.sms_rows.specs.table.Table.{Rises, row_at}
use Rattle.sms_centre_rows.specs.messages.Messages.{part_at, part_key, part_reaching}
use Rattle.sms_centre_rows.specs.declared.messages.message.MessageRow.{MessageRow}
use Rattle.sms_centre_rows.specs.declared.messages.part.PartRow.{PartRow}
use Rattle.sms_centre_rows.proofs.reports.ReportRows.{amended_other, amended_own}
use Rattle.sms_centre_rows.specs.reports.Reports.{is_status, report_key, report_of, report_reaching}
use Rattle.sms_centre_rows.specs.declared.reports.report.ReportRow.{ReportRow}
use Rattle.sms_tpdu.specs.MoreMessages.{compared}
use Rattle.sms_centre_rows.proofs.waiting.Amending.{row_at_amended, row_at_amended_other}
use Rattle.sms_centre_rows.specs.waiting.Revisions.{amended}
use Rattle.sms_centre_rows.specs.declared.waiting.progress.Progress.{Progress}
use Rattle.sms_centre_spec.specs.Draft.{Store, handsets_in, messages_in, parts_in, references_in, reports_in, with_part_at, with_report_at}
use Rattle.sms_world_model.specs.World.{World}
use Rattle.sms_world.specs.centres_refine_the_world.CentreRefinement.{RefinesRows, StoreRefines}
use Rattle.sms_world.specs.headline.SeenWorld.{by_octet, PartSeen, messages_by, part_seen, parts_by}
use Rattle.sms_world.specs.centres_refine_the_world.RefinesGiven.{RefinesHolders, seconds_by}
use Rattle.sms_world.specs.centres_refine_the_world.RefinesReports.{ReportSeen, RefinesReports, report_seen, reports_by}

-- ---- a part

part_alike : (p : PartRow) (q : Progress) (parts : List PartRow) → row_at part_key (part_key p) parts ≡ Some p → q.is_done ≡ p.progress.is_done
    → (id n : ℕ) → parts_by parts id n ≡ parts_by (amended part_key part_reaching (part_key p) q parts) id n
part_alike p q parts there same id n = ⊎_elim
    (λ (e : part_key p ≡ pair_key id n).
    let now : part_at id n (amended part_key part_reaching (part_key p) q parts) ≡ Some (part_reaching q p) =
    ap (λ (k : ℕ). row_at part_key k (amended part_key part_reaching (part_key p) q parts)) (sym e)
    ∙ row_at_amended part_key part_reaching (λ x y. refl) (part_key p) q parts ∙ ap (λ (o : Option PartRow). option_map (λ (x : PartRow). part_reaching q x) o) there in
    let was : part_at id n parts ≡ Some p = ap (λ (k : ℕ). row_at part_key k parts) (sym e) ∙ there in
    ap (λ (o : Option PartSeen). by_octet n o) (ap part_seen was ∙ (λ j. Some (record { reference = p.reference; tpdu = compared p.tpdu; is_done = sym same j })) ∙ ap part_seen (sym now)))
    (λ (ne : part_key p ≡ pair_key id n → ⊥).
    ap (λ (o : Option PartRow). by_octet n (part_seen o)) (sym (row_at_amended_other part_key part_reaching (λ x y. refl) (pair_key id n) (part_key p) q parts ne)))
    (cases_eq (part_key p) (pair_key id n))

pub part_far_unseen : (p : PartRow) (q : Progress) (s : Store) (w : World) → row_at part_key (part_key p) (parts_in s) ≡ Some p → q.is_done ≡ p.progress.is_done
    → StoreRefines s w → StoreRefines (with_part_at p q s) w
part_far_unseen p q s w there same refines =
    subst (λ (z : ℕ → ℕ → Option PartSeen). RefinesRows (messages_by (messages_in s)) z (reports_by (reports_in s)) (seconds_by (handsets_in s) (references_in s)) s.moment w)
    (λ j id n. part_alike p q (parts_in s) there same id n j) refines

-- ---- a report

-- the same of its kind, and of a status report whether it is done
abbrev AreAlike : Option ReportSeen → Option ReportSeen → Type 0
AreAlike None None = Unit {0}
AreAlike None (Some y) = ⊥
AreAlike (Some x) None = ⊥
AreAlike (Some x) (Some y) = (x.kind ≡ y.kind) × (is_status x.kind ≡ true → x.is_done ≡ y.is_done)

alike_itself : (o : Option ReportSeen) → AreAlike o o
alike_itself None = tt
alike_itself (Some x) = (refl, λ e. refl)

-- what is found in the one is found in the other, alike
found_alike : (o z : Option ReportSeen) (x : ReportSeen) → AreAlike o z → o ≡ Some x → (y : ReportSeen) × ((z ≡ Some y) × ((x.kind ≡ y.kind) × (is_status x.kind ≡ true → x.is_done ≡ y.is_done)))
found_alike None z x a e = absurd cc
found_alike (Some v) None x a e = absurd a
found_alike (Some v) (Some y) x a e =
    let q : v ≡ x = cc in
    (y, (refl, subst (λ (u : ReportSeen). (u.kind ≡ y.kind) × (is_status u.kind ≡ true → u.is_done ≡ y.is_done)) q a))

turned : (o z : Option ReportSeen) → AreAlike o z → AreAlike z o
turned None None a = tt
turned None (Some y) a = absurd a
turned (Some x) None a = absurd a
turned (Some x) (Some y) a = (sym a.0, λ e. sym (a.1 (ap is_status a.0 ∙ e)))

module _ (before after : ℕ → Option ReportSeen) (alike : (id : ℕ) → AreAlike (before id) (after id)) (w : World) where
  reports_alike : RefinesReports before w.receipts w.reports → RefinesReports after w.receipts w.reports
  reports_alike s = record {
    there = λ id r e. let x = found_alike (after id) (before id) r (turned (before id) (after id) (alike id)) e in s.there id x.0 x.1.0;
    only = λ x i. let r = s.only x i in let y = found_alike (before x.id) (after x.id) r.0 (alike x.id) r.1 in (y.0, y.1.0);
    still = λ id r e k n.
        let x = found_alike (after id) (before id) r (turned (before id) (after id) (alike id)) e in
        s.still id x.0 x.1.0 (sym (ap is_status x.1.1.0) ∙ k) (sym (x.1.1.1 k) ∙ n);
    opened = λ id i.
        let r = s.opened id i in
        let y = found_alike (before id) (after id) r.0 (alike id) r.1.0 in
        (y.0, (y.1.0, sym (ap is_status y.1.1.0) ∙ r.1.1, sym (y.1.1.1 r.1.1) ∙ r.1.2));
  }

  holders_alike : (ms : ℕ → Option MessageRow) (ps : ℕ → ℕ → Option PartSeen) → RefinesHolders ms ps before w.down → RefinesHolders ms ps after w.down
  holders_alike ms ps s = record {
    part = s.part;
    report = λ id reference tpdu m r e f k.
        let x = found_alike (after id) (before id) r (turned (before id) (after id) (alike id)) f in
        s.report id reference tpdu m x.0 e x.1.0 (sym x.1.1.0 ∙ k);
    of_part = s.of_part;
    of_report = λ g id i e.
        let x = s.of_report g id i e in
        let y = found_alike (before id) (after id) x.1 (alike id) x.4.1 in
        (x.0, y.0, x.2, x.3, (x.4.0, y.1.0, sym y.1.1.0 ∙ x.4.2, x.4.3));
  }

report_alike : (r : ReportRow) (q : Progress) (reports : List ReportRow) → Rises report_key reports → report_of r.id reports ≡ Some r
    → (is_status r.kind ≡ true → q.is_done ≡ r.progress.is_done) → (id : ℕ) → AreAlike (reports_by reports id) (reports_by (amended report_key report_reaching (report_key r) q reports) id)
report_alike r q reports rises there same id = ⊎_elim
    (λ (e : r.id ≡ id).
    let was : reports_by reports id ≡ Some (record { kind = r.kind; is_done = r.progress.is_done }) = ap report_seen (ap (λ (k : ℕ). report_of k reports) (sym e) ∙ there) in
    let now : reports_by (amended report_key report_reaching (report_key r) q reports) id ≡ Some (record { kind = r.kind; is_done = q.is_done }) =
    ap report_seen (ap (λ (k : ℕ). report_of k (amended report_key report_reaching (report_key r) q reports)) (sym e) ∙ amended_own r q reports there) in
    subst (λ (z : Option ReportSeen). AreAlike (reports_by reports id) z) (sym now)
    (subst (λ (z : Option ReportSeen). AreAlike z (Some (record { kind = r.kind; is_done = q.is_done }))) (sym was) (refl, λ k. sym (same k))))
    (λ (ne : r.id ≡ id → ⊥).
    subst (λ (z : Option ReportRow). AreAlike (reports_by reports id) (report_seen z)) (sym (amended_other id r q reports rises there ne)) (alike_itself (reports_by reports id)))
    (cases_eq r.id id)

pub report_far_unseen : (r : ReportRow) (q : Progress) (s : Store) (w : World) → Rises report_key (reports_in s) → report_of r.id (reports_in s) ≡ Some r
    → (is_status r.kind ≡ true → q.is_done ≡ r.progress.is_done) → StoreRefines s w → StoreRefines (with_report_at r q s) w
report_far_unseen r q s w rises there same refines =
    let before = reports_by (reports_in s) in
    let after = reports_by (reports_in (with_report_at r q s)) in
    let alike = report_alike r q (reports_in s) rises there same in
    record {
      table = refines.table;
      reports = reports_alike before after alike w refines.reports;
      holders = holders_alike before after alike w (messages_by (messages_in s)) (parts_by (parts_in s)) refines.holders;
      seconds = refines.seconds;
    }
