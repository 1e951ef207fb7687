-- Rows are amended from the front on: what is left is passed over, and the walk goes on behind the first that is amended.
use Rattle.std.proofs.Common.{◌≡◌, ℕ, ◌+◌, ◌<◌, ◌≤◌, List, [], ◌∷◌, Bool, true, false, refl, sym, ◌∙◌, ap, subst, inl, inr, ⊎_elim, arith}
use Rattle.std.specs.Prelude.{◌==◌, if◌then◌else◌}
use Rattle.std.proofs.lemmas.Bool.{cases_lt, cond-true, cond-false, ne_eqb}
use Rattle.sms_base.specs.Among.{Among}
use Rattle.sms_rows.specs.table.Table.{AllAbove, Rises, rows_from}
use Rattle.sms_centre_rows.specs.declared.reports.report.ReportRow.{ReportRow}
use Rattle.sms_centre_rows.specs.reports.Reports.{amend_report, report_key, report_reaching}
use Rattle.sms_centre_reports.proofs.open_reports.Becoming.{far, far_place}
use Rattle.sms_centre_reports.proofs.open_reports.Walking.{above_one, from_all, from_behind, from_here}
use Rattle.sms_centre_rows.specs.declared.waiting.progress.Progress.{Progress}
use Rattle.sms_centre_rows.specs.waiting.Revisions.{Revised, amended}

-- ---- the walk

module _ (test : ReportRow → Bool) (reach : ReportRow → Progress) where
  abbrev pub amend_each : List ReportRow → Revised ReportRow → Revised ReportRow
  amend_each [] t = t
  amend_each (r ∷ rs) t = amend_each rs (if test r then amend_report r (reach r) t else t)

  step_over : (r : ReportRow) (t : Revised ReportRow) → test r ≡ false → (if test r then amend_report r (reach r) t else t) ≡ t
  step_over r t e = cond-false (test r) (amend_report r (reach r) t) t e

  rest_over : (rs : List ReportRow) (t : Revised ReportRow) → ((r : ReportRow) → Among r rs → test r ≡ false) → amend_each rs t ≡ t
  rest_over [] t f = refl
  rest_over (r ∷ rs) t f = ap (λ (u : Revised ReportRow). amend_each rs u) (step_over r t (f r (inl refl))) ∙ rest_over rs t (λ s m. f s (inr m))

  -- none is amended from a place on
  pub amends_end : (first : ℕ) (rs : List ReportRow) (t : Revised ReportRow) → Rises report_key rs → ((r : ReportRow) → Among r rs → first ≤ r.place → test r ≡ false) → amend_each (rows_from report_key first rs) t ≡ t
  amends_end first [] t h f = refl
  amends_end first (r ∷ rs) t h f = ⊎_elim
      (λ (l : r.place < first). ap (λ (x : List ReportRow). amend_each x t) (from_behind first r rs l) ∙ amends_end first rs t h.1 (λ s m. f s (inr m)))
      (λ (l : first ≤ r.place). ap (λ (x : List ReportRow). amend_each x t) (from_here first r rs l)
      ∙ rest_over (r ∷ rs) t (λ s m. f s m (⊎_elim
      (λ (e : s ≡ r). subst (λ (x : ReportRow). first ≤ x.place) (sym e) l)
      (λ (k : Among s rs). let q = above_one r.place s rs h.0 k in omega (arith, q, l))
      m)))
      (cases_lt r.place first)

  -- the first that is amended from a place on
  pub amends_on : (first : ℕ) (rs : List ReportRow) (r : ReportRow) (t : Revised ReportRow) → Rises report_key rs → Among r rs → first ≤ r.place
      → ((x : ReportRow) → Among x rs → first ≤ x.place → x.place < r.place → test x ≡ false) → test r ≡ true
      → amend_each (rows_from report_key first rs) t ≡ amend_each (rows_from report_key (r.place + 1) rs) (amend_report r (reach r) t)
  amends_on first [] r t h m l f e = elim m [ ]
  amends_on first (y ∷ ys) r t h m l f e = ⊎_elim
      (λ (q : r ≡ y).
      ap (λ (x : List ReportRow). amend_each x t) (from_here first y ys (subst (λ (x : ReportRow). first ≤ x.place) q l))
      ∙ ap (λ (u : Revised ReportRow). amend_each ys u)
      (ap (λ (x : ReportRow). if test x then amend_report x (reach x) t else t) (sym q) ∙ cond-true (test r) (amend_report r (reach r) t) t e)
      ∙ ap (λ (x : List ReportRow). amend_each x (amend_report r (reach r) t))
      (sym (ap (λ (x : ReportRow). rows_from report_key (x.place + 1) (y ∷ ys)) q ∙ from_behind (y.place + 1) y ys (omega arith) ∙ from_all (y.place + 1) y.place ys h.0 (omega arith))))
      (λ (k : Among r ys).
      let before : y.place < r.place = above_one y.place r ys h.0 k in
      let behind : rows_from report_key (r.place + 1) (y ∷ ys) ≡ rows_from report_key (r.place + 1) ys = from_behind (r.place + 1) y ys (omega (arith, before)) in
      let next = amends_on first ys r t h.1 k l (λ x n. f x (inr n)) e in
      ⊎_elim
      (λ (b : y.place < first).
      ap (λ (x : List ReportRow). amend_each x t) (from_behind first y ys b) ∙ next ∙ ap (λ (x : List ReportRow). amend_each x (amend_report r (reach r) t)) (sym behind))
      (λ (b : first ≤ y.place).
      ap (λ (x : List ReportRow). amend_each x t) (from_here first y ys b)
      ∙ ap (λ (u : Revised ReportRow). amend_each ys u) (step_over y t (f y (inl refl) b before))
      ∙ ap (λ (x : List ReportRow). amend_each x t) (sym (from_all first y.place ys h.0 (omega (arith, b))))
      ∙ next ∙ ap (λ (x : List ReportRow). amend_each x (amend_report r (reach r) t)) (sym behind))
      (cases_lt y.place first))
      m

-- ---- rows behind the one that is amended are as before

far_other : (n : ℕ) (q : Progress) (r : ReportRow) → n < r.place → far n q r ≡ r
far_other n q r l = cond-false (r.place == n) (report_reaching q r) r (ne_eqb r.place n (λ e. absurd (omega (arith, l, e))))

amended_above : (n m : ℕ) (q : Progress) (rs : List ReportRow) → AllAbove report_key m rs → n ≤ m → amended report_key report_reaching n q rs ≡ rs
amended_above n m q [] h l = refl
amended_above n m q (r ∷ rs) h l =
    let a : m < r.place = h.0 in
    ap (λ (x : ReportRow). x ∷ amended report_key report_reaching n q rs) (far_other n q r (omega (arith, a, l))) ∙ ap (λ (xs : List ReportRow). r ∷ xs) (amended_above n m q rs h.1 l)

pub from_amended : (n : ℕ) (q : Progress) (rs : List ReportRow) → Rises report_key rs → rows_from report_key (n + 1) (amended report_key report_reaching n q rs) ≡ rows_from report_key (n + 1) rs
from_amended n q [] h = refl
from_amended n q (r ∷ rs) h = ⊎_elim
    (λ (l : r.place < n + 1).
    from_behind (n + 1) (far n q r) (amended report_key report_reaching n q rs) (subst (λ (k : ℕ). k < n + 1) (sym (far_place n q r)) l) ∙ from_amended n q rs h.1 ∙ sym (from_behind (n + 1) r rs l))
    (λ (l : n + 1 ≤ r.place).
    ap (λ (xs : List ReportRow). rows_from report_key (n + 1) xs)
    (ap (λ (x : ReportRow). x ∷ amended report_key report_reaching n q rs) (far_other n q r (omega (arith, l))) ∙ ap (λ (xs : List ReportRow). r ∷ xs) (amended_above n r.place q rs h.0 (omega (arith, l)))))
    (cases_lt r.place (n + 1))

pub from_first : (rs : List ReportRow) → rows_from report_key 0 rs ≡ rs
from_first [] = refl
from_first (r ∷ rs) = from_here 0 r rs (omega arith)
