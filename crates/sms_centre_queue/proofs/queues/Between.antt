-- Rows between two keys: in order, and found there as among all.
use Rattle.std.proofs.Common.{◌≡◌, ℕ, ◌<◌, ◌≤◌, List, [], ◌∷◌, refl, sym, ◌∙◌, ap, subst, ⊎_elim, arith}
use Rattle.std.specs.Prelude.{nat_lt}
use Rattle.std.proofs.lemmas.Bool.{cases_lt, cases_eq, cond-true, cond-false, lt-ltb, le-ltb}
use Rattle.sms_rows.specs.table.Table.{AllAbove, Rises, row_at, rows_before, rows_between, rows_from}
use Rattle.sms_rows.proofs.table.Tables.{above_lower, row_behind, row_here}
use Rattle.sms_centre_rows.proofs.waiting.Alike.{above_none}

module _ {A : Type 0} (key : A → ℕ) where
  from_behind : (n : ℕ) (x : A) (xs : List A) → key x < n → rows_from key n (x ∷ xs) ≡ rows_from key n xs
  from_behind n x xs l = cond-true (nat_lt (key x) n) (rows_from key n xs) (x ∷ xs) (lt-ltb (key x) n l)

  from_here : (n : ℕ) (x : A) (xs : List A) → n ≤ key x → rows_from key n (x ∷ xs) ≡ x ∷ xs
  from_here n x xs l = cond-false (nat_lt (key x) n) (rows_from key n xs) (x ∷ xs) (le-ltb (key x) n l)

  before_here : (n : ℕ) (x : A) (xs : List A) → key x < n → rows_before key n (x ∷ xs) ≡ x ∷ rows_before key n xs
  before_here n x xs l = cond-true (nat_lt (key x) n) (x ∷ rows_before key n xs) [] (lt-ltb (key x) n l)

  before_none : (n : ℕ) (x : A) (xs : List A) → n ≤ key x → rows_before key n (x ∷ xs) ≡ []
  before_none n x xs l = cond-false (nat_lt (key x) n) (x ∷ rows_before key n xs) [] (le-ltb (key x) n l)

  rises_from : (n : ℕ) (xs : List A) → Rises key xs → Rises key (rows_from key n xs)
  rises_from n [] r = tt
  rises_from n (x ∷ xs) r = ⊎_elim
      (λ (l : key x < n). subst (λ (ys : List A). Rises key ys) (sym (from_behind n x xs l)) (rises_from n xs r.1))
      (λ (l : n ≤ key x). subst (λ (ys : List A). Rises key ys) (sym (from_here n x xs l)) r)
      (cases_lt (key x) n)

  above_before : (m n : ℕ) (xs : List A) → AllAbove key m xs → AllAbove key m (rows_before key n xs)
  above_before m n [] a = tt
  above_before m n (x ∷ xs) a = ⊎_elim
      (λ (l : key x < n). subst (λ (ys : List A). AllAbove key m ys) (sym (before_here n x xs l)) (a.0, above_before m n xs a.1))
      (λ (l : n ≤ key x). subst (λ (ys : List A). AllAbove key m ys) (sym (before_none n x xs l)) tt)
      (cases_lt (key x) n)

  rises_before : (n : ℕ) (xs : List A) → Rises key xs → Rises key (rows_before key n xs)
  rises_before n [] r = tt
  rises_before n (x ∷ xs) r = ⊎_elim
      (λ (l : key x < n). subst (λ (ys : List A). Rises key ys) (sym (before_here n x xs l)) (above_before (key x) n xs r.0, rises_before n xs r.1))
      (λ (l : n ≤ key x). subst (λ (ys : List A). Rises key ys) (sym (before_none n x xs l)) tt)
      (cases_lt (key x) n)

  pub rises_between : (first end : ℕ) (xs : List A) → Rises key xs → Rises key (rows_between key first end xs)
  rises_between first end xs r = rises_before end (rows_from key first xs) (rises_from first xs r)

  found_from : (n k : ℕ) (xs : List A) → n ≤ k → row_at key k (rows_from key n xs) ≡ row_at key k xs
  found_from n k [] l = refl
  found_from n k (x ∷ xs) l = ⊎_elim
      (λ (b : key x < n). ap (λ (ys : List A). row_at key k ys) (from_behind n x xs b) ∙ found_from n k xs l ∙ sym (row_behind key k x xs (λ e. absurd (omega (arith, b, e, l)))))
      (λ (b : n ≤ key x). ap (λ (ys : List A). row_at key k ys) (from_here n x xs b))
      (cases_lt (key x) n)

  found_before : (n k : ℕ) (xs : List A) → k < n → Rises key xs → row_at key k (rows_before key n xs) ≡ row_at key k xs
  found_before n k [] l r = refl
  found_before n k (x ∷ xs) l r = ⊎_elim
      (λ (b : key x < n). ap (λ (ys : List A). row_at key k ys) (before_here n x xs b) ∙ ⊎_elim
      (λ (e : key x ≡ k). row_here key k x (rows_before key n xs) e ∙ sym (row_here key k x xs e))
      (λ (e : key x ≡ k → ⊥). row_behind key k x (rows_before key n xs) e ∙ found_before n k xs l r.1 ∙ sym (row_behind key k x xs e))
      (cases_eq (key x) k))
      (λ (b : n ≤ key x).
      let above : AllAbove key k (x ∷ xs) = (omega (arith, b, l), above_lower key k (key x) xs (omega (arith, b, l)) r.0) in
      ap (λ (ys : List A). row_at key k ys) (before_none n x xs b) ∙ sym (above_none key k (x ∷ xs) above))
      (cases_lt (key x) n)

  pub found_between : (first end k : ℕ) (xs : List A) → first ≤ k → k < end → Rises key xs → row_at key k (rows_between key first end xs) ≡ row_at key k xs
  found_between first end k xs l m r = found_before end k (rows_from key first xs) m (rises_from first xs r) ∙ found_from first k xs l
