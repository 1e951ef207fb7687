-- Messages that an archive takes one by one.
use Rattle.std.proofs.Common.{◌≡◌, ◌⊎◌, ℕ, zero, suc, ◌<◌, ◌≤◌, List, [], ◌∷◌, length, drop, get_or, Result, Ok, Err, OnOk, Bool, true, false, Some, inl, inr, sym, ◌∙◌, ap, arith}
use Rattle.std.specs.Prelude.{◌||◌}
use Rattle.std.proofs.lemmas.Bool.{cases_eq, ne_eqb}
use Rattle.sms_base.specs.Among.{Among}
use Rattle.sms_rows.specs.table.Table.{Rises}
use Rattle.sms_rows.proofs.table.Tables.{among_found}
use Rattle.sms_centre_rows.specs.declared.messages.message.MessageRow.{MessageRow}
use Rattle.sms_centre_rows.specs.messages.Messages.{message_at, message_key}
use Rattle.sms_centre_rows.specs.messages.SplitReferences.{is_among}
use Rattle.sms_centre_spec.specs.declared.rows.Changes.{Changes}
use Rattle.sms_centre_spec.specs.Draft.{Core, core_of, rows_after}
use Rattle.sms_centre_spec.specs.forgetting.Forget.{forget}
use Rattle.sms_centre_spec.proofs.forgetting.Removed.{forget_commits}
use Rattle.sms_centre.specs.declared.plans.event_outcome.EventOutcome.{EventOutcome}
use Rattle.sms_centre.specs.plans.EventOutcome.{IsOutcome}

-- it is the first of them, or one behind it
pub first_or_behind : (n i : ℕ) (ids : List ℕ) (id : ℕ) → i < length ids → id ≡ get_or ids i id → is_among n (drop i ids) ≡ true → (n ≡ id) ⊎ (is_among n (drop (suc i) ids) ≡ true)
first_or_behind n i [] id l at e = absurd (omega (arith, l))
first_or_behind n zero (x ∷ xs) id l at e = by (cases_eq x n) where
  by : (x ≡ n) ⊎ (x ≡ n → ⊥) → (n ≡ id) ⊎ (is_among n xs ≡ true)
  by (inl q) = inl (sym q ∙ sym at)
  by (inr q) = inr (sym (ap (λ (b : Bool). b || is_among n xs) (ne_eqb x n q)) ∙ e)
first_or_behind n (suc i) (x ∷ xs) id l at e = first_or_behind n i xs id (omega (arith, l)) at e

pub none_behind : (n i : ℕ) (ids : List ℕ) → length ids ≤ i → is_among n (drop i ids) ≡ true → ⊥
none_behind n zero [] l e = let bad : false ≡ true = e in absurd cc
none_behind n (suc i) [] l e = let bad : false ≡ true = e in absurd cc
none_behind n zero (x ∷ xs) l e = absurd (omega (arith, l))
none_behind n (suc i) (x ∷ xs) l e = none_behind n i xs (omega (arith, l)) e

pub found_by_number : (m : MessageRow) (id : ℕ) (ms : List MessageRow) → Rises message_key ms → Among m ms → m.id ≡ id → message_at id ms ≡ Some m
found_by_number m id ms rises a e = ap (λ (n : ℕ). message_at n ms) (sym e) ∙ among_found message_key m ms rises a

pub none_of_none : (n : ℕ) (ids : List ℕ) → length ids ≡ 0 → is_among n ids ≡ true → ⊥
none_of_none n [] l e = let bad : false ≡ true = e in absurd cc
none_of_none n (x ∷ xs) l e = absurd (omega (arith, l))

pub on_ok_holds : {A E : Type 0} (r : Result A E) (P : Type 0) → P → OnOk r P
on_ok_holds (Ok a) P h = h
on_ok_holds (Err e) P h = tt

-- ---- what is committed

pub rows_left : (before from most : ℕ) (c : Core) (p : EventOutcome) → IsOutcome (forget before from most c) p → rows_after p.changes c.rows ≡ (core_of (forget before from most c)).rows
rows_left before from most c p planned = ap (λ (x : Changes). rows_after x c.rows) planned.changes ∙ ap (λ (x : Core). x.rows) (forget_commits before from most c)
