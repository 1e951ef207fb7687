-- The report of a message, where a report comes and where one is so far.
use Rattle.std.proofs.Common.{◌≡◌, ℕ, ◌<◌, ◌≤◌, List, [], ◌∷◌, Option, Some, None, refl, sym, ◌∙◌, ap, inl, inr, ⊎_elim, eq-eqb}
use Rattle.std.specs.Prelude.{◌==◌, if◌then◌else◌}
use Rattle.std.proofs.lemmas.Bool.{cases_eq, cases_lt, cond-true, cond-false, ne_eqb}
use Rattle.sms_base.specs.Among.{Among}
use Rattle.sms_rows.specs.table.Table.{Rises, insert, put, row_at, without}
use Rattle.sms_rows.proofs.table.Tables.{among_found, among_put, insert_behind, insert_here, without_behind}
use Rattle.sms_centre_rows.specs.declared.reports.report.ReportRow.{ReportRow}
use Rattle.sms_centre_rows.specs.reports.Reports.{report_key, report_of, report_reaching}
use Rattle.sms_centre_rows.specs.reports.Waiting.{Alone, IsReportApart}
use Rattle.sms_centre_rows.proofs.reports.AllWaiting.{report_behind, report_found, report_here}
use Rattle.sms_centre_rows.specs.declared.waiting.progress.Progress.{Progress}
use Rattle.sms_centre_rows.specs.waiting.Revisions.{amended}

-- ---- a report that is new

without_none : (n : ℕ) (rs : List ReportRow) → ((s : ReportRow) → Among s rs → ¬ (s.place ≡ n)) → without report_key n rs ≡ rs
without_none n [] f = refl
without_none n (s ∷ rs) f = without_behind report_key n s rs (f s (inl refl)) ∙ ap (λ (l : List ReportRow). s ∷ l) (without_none n rs (λ x m. f x (inr m)))

insert_own : (r : ReportRow) (rs : List ReportRow) → ((s : ReportRow) → Among s rs → ¬ (s.id ≡ r.id)) → report_of r.id (insert report_key r rs) ≡ Some r
insert_own r [] f = report_here r.id r [] refl
insert_own r (s ∷ rs) f = ⊎_elim
    (λ (l : r.place < s.place). ap (λ (x : List ReportRow). report_of r.id x) (insert_here report_key r s rs l) ∙ report_here r.id r (s ∷ rs) refl)
    (λ (l : s.place ≤ r.place).
    ap (λ (x : List ReportRow). report_of r.id x) (insert_behind report_key r s rs l)
    ∙ report_behind r.id s (insert report_key r rs) (f s (inl refl)) ∙ insert_own r rs (λ x m. f x (inr m)))
    (cases_lt r.place s.place)

insert_other : (id : ℕ) (r : ReportRow) (rs : List ReportRow) → ¬ (r.id ≡ id) → report_of id (insert report_key r rs) ≡ report_of id rs
insert_other id r [] ne = report_behind id r [] ne
insert_other id r (s ∷ rs) ne = ⊎_elim
    (λ (l : r.place < s.place). ap (λ (x : List ReportRow). report_of id x) (insert_here report_key r s rs l) ∙ report_behind id r (s ∷ rs) ne)
    (λ (l : s.place ≤ r.place). ap (λ (x : List ReportRow). report_of id x) (insert_behind report_key r s rs l) ∙ ⊎_elim
    (λ (e : s.id ≡ id). report_here id s (insert report_key r rs) e ∙ sym (report_here id s rs e))
    (λ (e : s.id ≡ id → ⊥). report_behind id s (insert report_key r rs) e ∙ insert_other id r rs ne ∙ sym (report_behind id s rs e))
    (cases_eq s.id id))
    (cases_lt r.place s.place)

pub new_report : (r : ReportRow) (rs : List ReportRow) → IsReportApart rs r → report_of r.id (put report_key r rs) ≡ Some r
new_report r rs new = ap (λ (x : List ReportRow). report_of r.id (insert report_key r x)) (without_none r.place rs new.place) ∙ insert_own r rs new.message

pub new_report_other : (id : ℕ) (r : ReportRow) (rs : List ReportRow) → IsReportApart rs r → ¬ (r.id ≡ id) → report_of id (put report_key r rs) ≡ report_of id rs
new_report_other id r rs new ne = ap (λ (x : List ReportRow). report_of id (insert report_key r x)) (without_none r.place rs new.place) ∙ insert_other id r rs ne

pub new_alone : (r : ReportRow) (rs : List ReportRow) → IsReportApart rs r → Alone rs → Alone (put report_key r rs)
new_alone r rs new alone = λ a b m n e. ⊎_elim
    (λ (p : a ≡ r). ⊎_elim
    (λ (q : b ≡ r). p ∙ sym q)
    (λ (q : Among b rs × ¬ (b.place ≡ r.place)). absurd (new.message b q.0 (sym e ∙ ap (λ (x : ReportRow). x.id) p)))
    (among_put report_key b r rs n))
    (λ (p : Among a rs × ¬ (a.place ≡ r.place)). ⊎_elim
    (λ (q : b ≡ r). absurd (new.message a p.0 (e ∙ ap (λ (x : ReportRow). x.id) q)))
    (λ (q : Among b rs × ¬ (b.place ≡ r.place)). alone a b p.0 q.0 e)
    (among_put report_key b r rs n))
    (among_put report_key a r rs m)

-- ---- a report that is so far

-- the row as it is then
abbrev pub so_far : ℕ → Progress → ReportRow → ReportRow
so_far n q s = if s.place == n then report_reaching q s else s

far_id : (n : ℕ) (q : Progress) (s : ReportRow) → (so_far n q s).id ≡ s.id
far_id n q s = ⊎_elim
    (λ (e : s.place ≡ n). ap (λ (x : ReportRow). x.id) (cond-true (s.place == n) (report_reaching q s) s (eq-eqb s.place n e)))
    (λ (e : s.place ≡ n → ⊥). ap (λ (x : ReportRow). x.id) (cond-false (s.place == n) (report_reaching q s) s (ne_eqb s.place n e)))
    (cases_eq s.place n)

pub far_of : (id n : ℕ) (q : Progress) (rs : List ReportRow) (s : ReportRow) → report_of id rs ≡ Some s → report_of id (amended report_key report_reaching n q rs) ≡ Some (so_far n q s)
far_of id n q [] s e = absurd cc
far_of id n q (r ∷ rs) s e = ⊎_elim
    (λ (f : r.id ≡ id).
    let same : Some r ≡ Some s = sym (report_here id r rs f) ∙ e in
    let is : r ≡ s = cc in
    report_here id (so_far n q r) (amended report_key report_reaching n q rs) (far_id n q r ∙ f) ∙ ap (λ (x : ReportRow). Some (so_far n q x)) is)
    (λ (f : r.id ≡ id → ⊥).
    report_behind id (so_far n q r) (amended report_key report_reaching n q rs) (λ g. f (sym (far_id n q r) ∙ g))
    ∙ far_of id n q rs s (sym (report_behind id r rs f) ∙ e))
    (cases_eq r.id id)

pub far_none : (id n : ℕ) (q : Progress) (rs : List ReportRow) → report_of id rs ≡ None → report_of id (amended report_key report_reaching n q rs) ≡ None
far_none id n q [] e = refl
far_none id n q (r ∷ rs) e = ⊎_elim
    (λ (f : r.id ≡ id). let bad : Some r ≡ None = sym (report_here id r rs f) ∙ e in absurd cc)
    (λ (f : r.id ≡ id → ⊥).
    report_behind id (so_far n q r) (amended report_key report_reaching n q rs) (λ g. f (sym (far_id n q r) ∙ g))
    ∙ far_none id n q rs (sym (report_behind id r rs f) ∙ e))
    (cases_eq r.id id)

pub amended_own : (r : ReportRow) (q : Progress) (rs : List ReportRow) → report_of r.id rs ≡ Some r → report_of r.id (amended report_key report_reaching (report_key r) q rs) ≡ Some (report_reaching q r)
amended_own r q rs e = far_of r.id r.place q rs r e ∙ ap (λ (x : ReportRow). Some x) (cond-true (r.place == r.place) (report_reaching q r) r (eq-eqb r.place r.place refl))

pub amended_other : (id : ℕ) (r : ReportRow) (q : Progress) (rs : List ReportRow) → Rises report_key rs → report_of r.id rs ≡ Some r → ¬ (r.id ≡ id)
    → report_of id (amended report_key report_reaching (report_key r) q rs) ≡ report_of id rs
amended_other id r q rs rises e ne = by (report_of id rs) refl where
  by : (o : Option ReportRow) → report_of id rs ≡ o → report_of id (amended report_key report_reaching (report_key r) q rs) ≡ o
  by None f = far_none id r.place q rs f
  by (Some s) f =
      let here = report_found id s rs f in
      let there = report_found r.id r rs e in
      let apart : ¬ (s.place ≡ r.place) = λ p.
      let same : Some s ≡ Some r = sym (among_found report_key s rs rises here.0) ∙ ap (λ (k : ℕ). row_at report_key k rs) p ∙ among_found report_key r rs rises there.0 in
      let is : s ≡ r = cc in
      ne (ap (λ (x : ReportRow). x.id) (sym is) ∙ here.1) in
      far_of id r.place q rs s f ∙ ap (λ (x : ReportRow). Some x) (cond-false (s.place == r.place) (report_reaching q s) s (ne_eqb s.place r.place apart))

among_far : (n : ℕ) (q : Progress) (rs : List ReportRow) (s : ReportRow) → Among s (amended report_key report_reaching n q rs) → (r : ReportRow) × (Among r rs × (s ≡ so_far n q r))
among_far n q [] s m = elim m [ ]
among_far n q (r ∷ rs) s m = ⊎_elim
    (λ (e : s ≡ so_far n q r). (r, (inl refl, e)))
    (λ (k : Among s (amended report_key report_reaching n q rs)). let g = among_far n q rs s k in (g.0, (inr g.1.0, g.1.1)))
    m

pub amended_alone : (n : ℕ) (q : Progress) (rs : List ReportRow) → Alone rs → Alone (amended report_key report_reaching n q rs)
amended_alone n q rs alone = λ a b m k e.
    let f = among_far n q rs a m in
    let g = among_far n q rs b k in
    let ids : f.0.id ≡ g.0.id = sym (far_id n q f.0) ∙ sym (ap (λ (x : ReportRow). x.id) f.1.1) ∙ e ∙ ap (λ (x : ReportRow). x.id) g.1.1 ∙ far_id n q g.0 in
    f.1.1 ∙ ap (λ (x : ReportRow). so_far n q x) (alone f.0 g.0 f.1.0 g.1.0 ids) ∙ sym g.1.1
