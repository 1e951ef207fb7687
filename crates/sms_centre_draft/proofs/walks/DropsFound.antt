-- Old status reports are dropped one after the other as what is kept of them tells: the walk goes on behind each.
use Rattle.std.proofs.Common.{◌≡◌, ℕ, ◌+◌, ◌<◌, ◌≤◌, List, [], ◌∷◌, true, false, Option, Some, None, refl, sym, ◌∙◌, ap, subst, ⊎_elim, arith}
use Rattle.std.specs.Prelude.{◌==◌, nat_lt}
use Rattle.std.proofs.lemmas.Bool.{cases_Bool, cases_eq, cases_lt, cond-true, cond-false, eq-eqb, le-ltb, lt-ltb, ne_eqb}
use Rattle.sms_base.specs.Among.{Among}
use Rattle.sms_rows.specs.table.Table.{AllAbove, Rises, rows_from}
use Rattle.sms_centre_rows.specs.declared.reports.report.ReportRow.{ReportRow}
use Rattle.sms_centre_rows.specs.reports.Reports.{amend_report, is_open_status, report_key, report_of, report_reaching}
use Rattle.sms_centre_rows.specs.reports.Waiting.{Alone}
use Rattle.sms_centre_rows.proofs.reports.AllWaiting.{report_found}
use Rattle.sms_centre_rows.specs.declared.waiting.progress.Progress.{Progress}
use Rattle.sms_centre_rows.specs.waiting.Revisions.{Revised, amended}
use Rattle.sms_centre_rows.specs.waiting.Trying.{finished, later as later_moment}
use Rattle.sms_centre_reports.specs.declared.open_reports.entry.StatusEntry.{StatusEntry}
use Rattle.sms_centre_reports.specs.open_reports.Dropping.{drop_old, is_old}
use Rattle.sms_centre_reports.specs.open_reports.Entries.{status_entry, status_limit}
use Rattle.sms_centre_spec.specs.CentreEvent.{drop_all, dropped}
use Rattle.sms_centre_spec.specs.Draft.{Store, reports_in, with_reports}
use Rattle.sms_centre_spec.specs.Transfers.{report_closed}
use Rattle.sms_centre_spec.proofs.SteadyTimes.{report_none}
use Rattle.sms_centre_draft.specs.walks.OldReports.{drop_from}
use Rattle.sms_centre_reports.proofs.open_reports.Keeping.{kept_where}
use Rattle.sms_centre_reports.proofs.open_reports.Amended.{from_first}

-- ---- rows from a place on

from_here : (n : ℕ) (r : ReportRow) (rs : List ReportRow) → n ≤ r.place → rows_from report_key n (r ∷ rs) ≡ r ∷ rs
from_here n r rs l = cond-false (nat_lt r.place n) (rows_from report_key n rs) (r ∷ rs) (le-ltb r.place n l)

from_behind : (n : ℕ) (r : ReportRow) (rs : List ReportRow) → r.place < n → rows_from report_key n (r ∷ rs) ≡ rows_from report_key n rs
from_behind n r rs l = cond-true (nat_lt r.place n) (rows_from report_key n rs) (r ∷ rs) (lt-ltb r.place n l)

-- ---- dropping touches the reports alone

drops : (rs : List ReportRow) (t : Revised ReportRow) (s : Store) → drop_all rs (with_reports t s) ≡ with_reports (drop_old s.moment rs t) s
drops [] t s = refl
drops (r ∷ rs) t s =
    let e : Store = with_reports t s in
    let u : Revised ReportRow = amend_report r (finished r.progress) t in
    ⊎_elim
    (λ (b : is_old s.moment r ≡ true).
    ap (λ (x : Store). drop_all rs x) (cond-true (is_old s.moment r) (report_closed r e) e b) ∙ drops rs u s
    ∙ ap (λ (x : Revised ReportRow). with_reports (drop_old s.moment rs x) s) (sym (cond-true (is_old s.moment r) u t b)))
    (λ (b : is_old s.moment r ≡ false).
    ap (λ (x : Store). drop_all rs x) (cond-false (is_old s.moment r) (report_closed r e) e b) ∙ drops rs t s
    ∙ ap (λ (x : Revised ReportRow). with_reports (drop_old s.moment rs x) s) (sym (cond-false (is_old s.moment r) u t b)))
    (cases_Bool (is_old s.moment r))

pub drops_begin : (s : Store) → dropped s ≡ drop_from 0 s
drops_begin s = ap (λ (rs : List ReportRow). drop_all rs s) (sym (from_first (reports_in s)))

-- ---- a report that was dropped is behind the walk

module _ (n : ℕ) (q : Progress) where
  left : (x : ReportRow) (xs : List ReportRow) → ¬ (x.place ≡ n) → amended report_key report_reaching n q (x ∷ xs) ≡ x ∷ amended report_key report_reaching n q xs
  left x xs ne =
      ap (λ (y : ReportRow). y ∷ amended report_key report_reaching n q xs) (cond-false (x.place == n) (report_reaching q x) x (ne_eqb x.place n ne))

  all_left : (xs : List ReportRow) → AllAbove report_key n xs → amended report_key report_reaching n q xs ≡ xs
  all_left [] above = refl
  all_left (x ∷ xs) above = left x xs (λ e. omega (arith, above.0, e)) ∙ ap (λ (l : List ReportRow). x ∷ l) (all_left xs above.1)

  so_far : (x : ReportRow) (xs : List ReportRow) → x.place ≡ n → amended report_key report_reaching n q (x ∷ xs) ≡ report_reaching q x ∷ amended report_key report_reaching n q xs
  so_far x xs e =
      ap (λ (y : ReportRow). y ∷ amended report_key report_reaching n q xs) (cond-true (x.place == n) (report_reaching q x) x (eq-eqb x.place n e))

  behind : (xs : List ReportRow) → Rises report_key xs → rows_from report_key (n + 1) (amended report_key report_reaching n q xs) ≡ rows_from report_key (n + 1) xs
  behind [] rises = refl
  behind (x ∷ xs) rises = ⊎_elim
      (λ (e : x.place ≡ n).
      ap (λ (l : List ReportRow). rows_from report_key (n + 1) l) (so_far x xs e)
      ∙ from_behind (n + 1) (report_reaching q x) (amended report_key report_reaching n q xs) (omega (arith, e))
      ∙ behind xs rises.1 ∙ sym (from_behind (n + 1) x xs (omega (arith, e))))
      (λ (ne : x.place ≡ n → ⊥).
      ap (λ (l : List ReportRow). rows_from report_key (n + 1) l) (left x xs ne) ∙ ⊎_elim
      (λ (l : x.place < n + 1).
      from_behind (n + 1) x (amended report_key report_reaching n q xs) l ∙ behind xs rises.1 ∙ sym (from_behind (n + 1) x xs l))
      (λ (l : n + 1 ≤ x.place).
      from_here (n + 1) x (amended report_key report_reaching n q xs) l
      ∙ ap (λ (ys : List ReportRow). x ∷ ys) (all_left xs (lower n x.place xs (omega (arith, l)) rises.0))
      ∙ sym (from_here (n + 1) x xs l))
      (cases_lt x.place (n + 1)))
      (cases_eq x.place n)
    where
      lower : (a b : ℕ) (ys : List ReportRow) → a ≤ b → AllAbove report_key b ys → AllAbove report_key a ys
      lower a b [] le above = tt
      lower a b (y ∷ ys) le above = (omega (arith, above.0, le), lower a b ys le above.1)

-- ---- as what is kept tells

pub drops_end : (s : Store) (first : ℕ) → drop_old s.moment (rows_from report_key first (reports_in s)) s.reports ≡ s.reports → drop_from first s ≡ s
drops_end s first none =
    drops (rows_from report_key first (reports_in s)) s.reports s ∙ ap (λ (t : Revised ReportRow). with_reports t s) none

found_alone : (r : ReportRow) (o : Option ReportRow) (rs : List ReportRow) → report_of r.id rs ≡ o → Alone rs → Among r rs → report_of r.id rs ≡ Some r
found_alone r None rs e alone among = absurd (report_none r.id r rs e among refl)
found_alone r (Some x) rs e alone among = let at = report_found r.id x rs e in e ∙ ap (λ (y : ReportRow). Some y) (alone x r at.0 among at.1)

-- the old one that is the first from a place on, as the walk over the reports has it
abbrev pub IsFirstOld : Store → ℕ → StatusEntry → Type 0
IsFirstOld s first e =
    (r : ReportRow) × ((Among r (reports_in s) × (status_entry r ≡ Some e))
    × (drop_old s.moment (rows_from report_key first (reports_in s)) s.reports ≡ drop_old s.moment (rows_from report_key (e.place + 1) (reports_in s)) (amend_report r (finished r.progress) s.reports)))

-- the same, as the walk over the rows has it
abbrev pub IsDroppedFirst : Store → ℕ → StatusEntry → Type 0
IsDroppedFirst s first e =
    (r : ReportRow) × ((report_of e.id (reports_in s) ≡ Some r) × (is_open_status r ≡ true) × (drop_from first s ≡ drop_from (e.place + 1) (report_closed r s)))

pub drops_on : (s : Store) (first : ℕ) (e : StatusEntry) → Rises report_key (reports_in s) → Alone (reports_in s) → IsFirstOld s first e → IsDroppedFirst s first e
drops_on s first e rises alone one =
    let r : ReportRow = one.0 in
    let so = kept_where (is_open_status r) (record { place = r.place; id = r.id; until = later_moment r.made status_limit }) e one.1.0.1 in
    let id : r.id ≡ e.id = ap (λ (x : StatusEntry). x.id) so.1 in
    let place : r.place ≡ e.place = ap (λ (x : StatusEntry). x.place) so.1 in
    let found : report_of e.id (reports_in s) ≡ Some r =
    subst (λ (k : ℕ). report_of k (reports_in s) ≡ Some r) id (found_alone r (report_of r.id (reports_in s)) (reports_in s) refl alone one.1.0.0) in
    let later : rows_from report_key (e.place + 1) (reports_in (report_closed r s)) ≡ rows_from report_key (e.place + 1) (reports_in s) =
    subst (λ (k : ℕ). rows_from report_key (k + 1) (reports_in (report_closed r s)) ≡ rows_from report_key (k + 1) (reports_in s)) place
    (behind r.place (finished r.progress) (reports_in s) rises) in (
      r,
      (
        found,
        so.0,
        drops (rows_from report_key first (reports_in s)) s.reports s ∙ ap (λ (t : Revised ReportRow). with_reports t s) one.1.1
            ∙ sym (drops (rows_from report_key (e.place + 1) (reports_in s)) (amend_report r (finished r.progress) s.reports) s)
            ∙ ap (λ (rs : List ReportRow). drop_all rs (report_closed r s)) (sym later),
      ),
    )
