-- Whether a message was reported, by what memory has: the open reports, and the last one of the log.
use Rattle.std.proofs.Common.{◌≡◌, ℕ, ◌+◌, ◌<◌, List, [], ◌∷◌, map, Bool, true, false, Option, Some, None, refl, sym, ◌∙◌, ap, subst, inl, inr, ⊎_elim, eq-eqb, arith}
use Rattle.std.specs.Prelude.{◌⊎◌, ◌&&◌, not, is_some, nat_lt, if◌then◌else◌}
use Rattle.std.proofs.lemmas.Bool.{cases_eq, le-ltb, lt-ltb, ne_eqb}
use Rattle.sms_base.proofs.Bools.{or_false}
use Rattle.sms_base.specs.Among.{Among}
use Rattle.sms_base.specs.declared.originator.Originator.{Originator}
use Rattle.sms_base.specs.declared.originator.Originator.TheVariants.{Application, Handset}
use Rattle.sms_rows.specs.index.Picked.{pick_of}
use Rattle.sms_rows.specs.table.Table.{AllAbove, Rises}
use Rattle.sms_centre_rows.specs.declared.messages.message.MessageRow.{MessageRow}
use Rattle.sms_centre_rows.specs.declared.reports.report.ReportKind.{ReportKind}
use Rattle.sms_centre_rows.specs.declared.reports.report.ReportKind.TheVariants.{Receipt, Status, Unsent}
use Rattle.sms_centre_rows.specs.declared.reports.report.ReportRow.{ReportRow}
use Rattle.sms_centre_rows.specs.reports.Reports.{place_after, report_key, report_of}
use Rattle.sms_centre_rows.specs.reports.SoundReports.{AreOnce, FitsOriginator, SoundReports}
use Rattle.sms_centre_rows.proofs.reports.AllWaiting.{report_behind, report_found, report_here}
use Rattle.sms_centre_reports.specs.declared.report_log.log.LoggedReport.{LoggedReport}
use Rattle.sms_centre_reports.specs.open_reports.Entries.{is_open, open_entry, report_entry}
use Rattle.sms_centre_reports.specs.report_log.ReportLog.{is_of_last, made_report}
use Rattle.sms_centre_spec.specs.forgetting.Forgetting.{is_reported}

-- of a sound report
open_undone : (k : ReportKind) (o : Originator) (m : MessageRow) (r : ReportRow) → r.kind ≡ k → FitsOriginator k o m r → is_open r ≡ not r.progress.is_done
open_undone Receipt o m r e fits = ap (λ (k : ReportKind). is_open (record r { kind = k })) e ∙ or_false (not r.progress.is_done)
open_undone (Status reference tpdu) o m r e fits = ap (λ (k : ReportKind). is_open (record r { kind = k })) e
open_undone Unsent (Application account) m r e fits = absurd fits
open_undone Unsent (Handset n) m r e fits = ap (λ (k : ReportKind). is_open (record r { kind = k })) e ∙ sym (ap not fits)

picked_open : (r : ReportRow) → is_some (open_entry r) ≡ is_open r
picked_open r = by (is_open r) where
  by : (b : Bool) → is_some (if b then Some (report_entry r) else None) ≡ b
  by true = refl
  by false = refl

abbrev logged : List ReportRow → List LoggedReport
logged rs = map made_report rs

-- a report that is there: a later one gives the next place, unless the last is of the message
of_last : (id k : ℕ) (r : ReportRow) (rs : List ReportRow) → Rises report_key rs → AreOnce rs → Among r rs → r.id ≡ id
    → nat_lt (r.place + 1) (place_after k rs) ≡ not (is_of_last id (logged rs))
of_last id k r [] rises once a own = absurd a
of_last id k r (x ∷ []) rises once a own = ⊎_elim
    (λ (e : r ≡ x).
    ap (λ (y : ReportRow). nat_lt (r.place + 1) (y.place + 1)) (sym e) ∙ le-ltb (r.place + 1) (r.place + 1) (omega arith)
    ∙ sym (ap not (eq-eqb x.id id (ap (λ (y : ReportRow). y.id) (sym e) ∙ own))))
    (λ (b : Among r []). absurd b)
    a
of_last id k r (x ∷ y ∷ rs) rises once a own = ⊎_elim
    (λ (e : r ≡ x). first e)
    (λ (b : Among r (y ∷ rs)). of_last id (x.place + 1) r (y ∷ rs) rises.1 (λ p q c d. once p q (inr c) (inr d)) b own)
    a
  where
    -- the first of several is not the last, and its place is lower
    higher : (n : ℕ) (z : ReportRow) (zs : List ReportRow) → AllAbove report_key n (z ∷ zs) → n + 1 < place_after (z.place + 1) zs
    higher n z [] h = let l : n < z.place = h.0 in omega (arith, l)
    higher n z (u ∷ us) h = higher n u us h.1

    other_last : (z : ReportRow) (zs : List ReportRow) → ((w : ReportRow) → Among w (z ∷ zs) → ¬ (w.id ≡ id)) → is_of_last id (logged (z ∷ zs)) ≡ false
    other_last z [] f = ne_eqb z.id id (f z (inl refl))
    other_last z (u ∷ us) f = other_last u us (λ w c. f w (inr c))

    first : r ≡ x → nat_lt (r.place + 1) (place_after (y.place + 1) rs) ≡ not (is_of_last id (logged (y ∷ rs)))
    first e =
        let low : x.place + 1 < place_after (y.place + 1) rs = higher x.place y rs rises.0 in
        let same : r.place ≡ x.place = ap (λ (z : ReportRow). z.place) e in
        lt-ltb (r.place + 1) (place_after (y.place + 1) rs) (omega (arith, low, same))
        ∙ sym (ap not (other_last y rs (λ w c q.
        let p : x.place ≡ w.place = once x w (inl refl) (inr c) (ap (λ (z : ReportRow). z.id) (sym e) ∙ own ∙ sym q) in
        let l : x.place < w.place = above x.place w (y ∷ rs) rises.0 c in absurd (omega (arith, p, l)))))
      where
        above : (n : ℕ) (z : ReportRow) (zs : List ReportRow) → AllAbove report_key n zs → Among z zs → n < z.place
        above n z [] h c = absurd c
        above n z (u ∷ us) h c = ⊎_elim (λ (q : z ≡ u). subst (λ (v : ReportRow). n < v.place) (sym q) h.0) (λ (d : Among z us). above n z us h.1 d) c

no_last : (id : ℕ) (rs : List ReportRow) → report_of id rs ≡ None → is_of_last id (logged rs) ≡ false
no_last id [] e = refl
no_last id (x ∷ []) e = ⊎_elim
    (λ (q : x.id ≡ id). let bad : Some x ≡ None = sym (report_here id x [] q) ∙ e in absurd cc)
    (λ (q : x.id ≡ id → ⊥). ne_eqb x.id id q)
    (cases_eq x.id id)
no_last id (x ∷ y ∷ rs) e = ⊎_elim
    (λ (q : x.id ≡ id). let bad : Some x ≡ None = sym (report_here id x (y ∷ rs) q) ∙ e in absurd cc)
    (λ (q : x.id ≡ id → ⊥). no_last id (y ∷ rs) (sym (report_behind id x (y ∷ rs) q) ∙ e))
    (cases_eq x.id id)

pub reported_as : (id : ℕ) (messages : List MessageRow) (rows : List ReportRow) → SoundReports messages rows
    → (not (is_some (pick_of open_entry (report_of id rows))) && not (is_of_last id (logged rows))) ≡ is_reported rows (report_of id rows)
reported_as id messages rows s = by (report_of id rows) refl
  where
    by : (o : Option ReportRow) → report_of id rows ≡ o → (not (is_some (pick_of open_entry o)) && not (is_of_last id (logged rows))) ≡ is_reported rows o
    by None e = ap not (no_last id rows e)
    by (Some r) e =
        let f = report_found id r rows e in
        let i = s.each r f.0 in
        let undone : is_some (open_entry r) ≡ not r.progress.is_done = picked_open r ∙ open_undone r.kind i.message.0.originator i.message.0 r refl i.message.1.1.1 in
        ap (λ (b : Bool). not b && not (is_of_last id (logged rows))) undone
        ∙ ap (λ (b : Bool). b && not (is_of_last id (logged rows))) (twice r.progress.is_done)
        ∙ ap (λ (b : Bool). r.progress.is_done && b) (sym (of_last id 1 r rows s.keys s.once f.0 f.1))
      where
        twice : (b : Bool) → not (not b) ≡ b
        twice true = refl
        twice false = refl
