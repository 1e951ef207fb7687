-- A report that is made, and one that is so far.
use Rattle.std.proofs.Common.{◌≡◌, ℕ, ◌+◌, ◌<◌, List, [], ◌∷◌, ◌++◌, Option, Some, None, refl, sym, ◌∙◌, ap, subst, inl, inr, ⊎_elim, eq-eqb, arith}
use Rattle.std.specs.Option.{option_map}
use Rattle.std.specs.Prelude.{◌==◌, if◌then◌else◌}
use Rattle.std.proofs.lemmas.Bool.{cases_eq, cond-true, cond-false, ne_eqb}
use Rattle.std.proofs.lemmas.Option.{same_Some}
use Rattle.sms_base.specs.Among.{Among}
use Rattle.sms_rows.specs.table.Table.{Rises, insert, put, row_at, without}
use Rattle.sms_rows.proofs.table.Tables.{among_found, found_among, found_key, insert_behind, rises_put, row_at_put, row_at_put_other, without_behind}
use Rattle.sms_centre_rows.specs.declared.reports.report.ReportRow.{ReportRow}
use Rattle.sms_centre_rows.specs.reports.Reports.{next_place, place_after, report_key, report_of, report_reaching}
use Rattle.sms_centre_rows.specs.reports.Waiting.{Alone, IsReportApart}
use Rattle.sms_centre_rows.proofs.reports.AllWaiting.{report_behind, report_found, report_here}
use Rattle.sms_centre_rows.proofs.reports.ReportRows.{amended_alone, amended_other, amended_own, new_alone, new_report, new_report_other}
use Rattle.sms_centre_reports.specs.open_reports.Became.{Became}
use Rattle.sms_centre_rows.specs.declared.waiting.progress.Progress.{Progress}
use Rattle.sms_centre_rows.specs.waiting.Revisions.{amended}
use Rattle.sms_centre_rows.proofs.waiting.Amending.{rises_amended, row_at_amended, row_at_amended_other}
use Rattle.sms_centre_spec.proofs.NextNumbers.{below_next_place}

-- ---- what is new

pub none_of : (id : ℕ) (s : ReportRow) (rs : List ReportRow) → report_of id rs ≡ None → Among s rs → ¬ (s.id ≡ id)
none_of id s [] e m = elim m [ ]
none_of id s (r ∷ rs) e m = ⊎_elim
    (λ (q : s ≡ r). λ f. let bad : Some r ≡ None = sym (report_here id r rs (ap (λ (x : ReportRow). x.id) (sym q) ∙ f)) ∙ e in absurd cc)
    (λ (k : Among s rs). ⊎_elim
    (λ (f : r.id ≡ id). let bad : Some r ≡ None = sym (report_here id r rs f) ∙ e in absurd cc)
    (λ (f : r.id ≡ id → ⊥). none_of id s rs (sym (report_behind id r rs f) ∙ e) k)
    (cases_eq r.id id))
    m

is_new : (r : ReportRow) (rs : List ReportRow) → Rises report_key rs → r.place ≡ next_place rs → report_of r.id rs ≡ None → IsReportApart rs r
is_new r rs h e none = record {
  place = λ s m f. let l = below_next_place 1 s rs h m in absurd (omega (arith, l, e, f));
  message = λ s m. none_of r.id s rs none m;
}

no_row : (n : ℕ) (b : ReportRow) (rs : List ReportRow) → ((s : ReportRow) → Among s rs → ¬ (s.place ≡ n)) → row_at report_key n rs ≡ Some b → ⊥
no_row n b rs f e = f b (found_among report_key n b rs e) (found_key report_key n b rs e)

became_new : (r : ReportRow) (rs : List ReportRow) → Rises report_key rs → Alone rs → IsReportApart rs r → Became rs (put report_key r rs) r
became_new r rs h alone new = record {
  keys = rises_put report_key r rs h;
  alone = new_alone r rs new alone;
  here = new_report r rs new;
  others = λ id ne. new_report_other id r rs new ne;
  at = row_at_put report_key r rs;
  elsewhere = λ n ne. row_at_put_other report_key n r rs ne;
  was = λ b f. absurd (no_row r.place b rs new.place f);
}

pub became_made : (r : ReportRow) (rs : List ReportRow) → Rises report_key rs → Alone rs → r.place ≡ next_place rs → report_of r.id rs ≡ None → Became rs (put report_key r rs) r
became_made r rs h alone e none = became_new r rs h alone (is_new r rs h e none)

-- ---- the next place

insert_last : (p : ℕ) (r : ReportRow) (rs : List ReportRow) → ((s : ReportRow) → Among s rs → s.place < r.place) → place_after p (insert report_key r rs) ≡ r.place + 1
insert_last p r [] f = refl
insert_last p r (s ∷ rs) f =
    let l : s.place < r.place = f s (inl refl) in
    ap (λ (x : List ReportRow). place_after p x) (insert_behind report_key r s rs (omega (arith, l))) ∙ insert_last (s.place + 1) r rs (λ x m. f x (inr m))

without_none : (n : ℕ) (rs : List ReportRow) → ((s : ReportRow) → Among s rs → s.place < n) → without report_key n rs ≡ rs
without_none n [] f = refl
without_none n (s ∷ rs) f =
    let l : s.place < n = f s (inl refl) in
    without_behind report_key n s rs (λ e. absurd (omega (arith, l, e))) ∙ ap (λ (x : List ReportRow). s ∷ x) (without_none n rs (λ x m. f x (inr m)))

pub next_made : (r : ReportRow) (rs : List ReportRow) → Rises report_key rs → r.place ≡ next_place rs → next_place (put report_key r rs) ≡ r.place + 1
next_made r rs h e =
    let lower : (s : ReportRow) → Among s rs → s.place < r.place = λ s m. let l = below_next_place 1 s rs h m in omega (arith, l, e) in
    ap (λ (x : List ReportRow). next_place (insert report_key r x)) (without_none r.place rs lower) ∙ insert_last 1 r rs lower

-- ---- a report that is so far

abbrev pub far : ℕ → Progress → ReportRow → ReportRow
far n q r = if report_key r == n then report_reaching q r else r

pub far_place : (n : ℕ) (q : Progress) (r : ReportRow) → (far n q r).place ≡ r.place
far_place n q r = ⊎_elim
    (λ (e : r.place ≡ n). ap (λ (x : ReportRow). x.place) (cond-true (r.place == n) (report_reaching q r) r (eq-eqb r.place n e)))
    (λ (e : r.place ≡ n → ⊥). ap (λ (x : ReportRow). x.place) (cond-false (r.place == n) (report_reaching q r) r (ne_eqb r.place n e)))
    (cases_eq r.place n)

keeps : (q : Progress) (x : ReportRow) → report_key (report_reaching q x) ≡ report_key x
keeps q x = refl

-- it stands under its place
pub placed : (r : ReportRow) (rs : List ReportRow) → Rises report_key rs → report_of r.id rs ≡ Some r → row_at report_key r.place rs ≡ Some r
placed r rs h e = among_found report_key r rs h (report_found r.id r rs e).0

pub became_far : (r : ReportRow) (q : Progress) (rs : List ReportRow) → Rises report_key rs → Alone rs → report_of r.id rs ≡ Some r
    → Became rs (amended report_key report_reaching (report_key r) q rs) (report_reaching q r)
became_far r q rs h alone e = record {
  keys = rises_amended report_key report_reaching keeps (report_key r) q rs h;
  alone = amended_alone (report_key r) q rs alone;
  here = amended_own r q rs e;
  others = λ id ne. amended_other id r q rs h e ne;
  at = row_at_amended report_key report_reaching keeps r.place q rs ∙ ap (λ (o : Option ReportRow). option_map (report_reaching q) o) (placed r rs h e);
  elsewhere = λ n ne. row_at_amended_other report_key report_reaching keeps n r.place q rs ne;
  was = λ b f. let same : r ≡ b = same_Some r b (sym (placed r rs h e) ∙ f) in (ap (λ (x : ReportRow). x.id) (sym same), ap (λ (x : ReportRow). x.kind) (sym same));
}

-- ---- a report that comes last

after_last : (p : ℕ) (r : ReportRow) (rs : List ReportRow) → place_after p (rs ++ r ∷ []) ≡ r.place + 1
after_last p r [] = refl
after_last p r (s ∷ rs) = after_last (s.place + 1) r rs

pub next_added : (r : ReportRow) (rs : List ReportRow) → next_place (rs ++ r ∷ []) ≡ r.place + 1
next_added r rs = after_last 1 r rs

insert_end : (r : ReportRow) (rs : List ReportRow) → ((s : ReportRow) → Among s rs → s.place < r.place) → insert report_key r rs ≡ rs ++ r ∷ []
insert_end r [] f = refl
insert_end r (s ∷ rs) f =
    let l : s.place < r.place = f s (inl refl) in
    insert_behind report_key r s rs (omega (arith, l)) ∙ ap (λ (x : List ReportRow). s ∷ x) (insert_end r rs (λ x m. f x (inr m)))

pub nothing_there : (r b : ReportRow) (rs : List ReportRow) → ((s : ReportRow) → Among s rs → s.place < r.place) → row_at report_key r.place rs ≡ Some b → ⊥
nothing_there r b rs lower e = no_row r.place b rs (λ s m f. let l = lower s m in absurd (omega (arith, l, f))) e

pub became_added : (r : ReportRow) (rs : List ReportRow) → Rises report_key rs → Alone rs → ((s : ReportRow) → Among s rs → s.place < r.place) → report_of r.id rs ≡ None → Became rs (rs ++ r ∷ []) r
became_added r rs h alone lower none =
    let new : IsReportApart rs r = record { place = λ s m f. let l = lower s m in absurd (omega (arith, l, f)); message = λ s m. none_of r.id s rs none m } in
    subst (λ (after : List ReportRow). Became rs after r) (ap (λ (x : List ReportRow). insert report_key r x) (without_none r.place rs lower) ∙ insert_end r rs lower) (became_new r rs h alone new)
