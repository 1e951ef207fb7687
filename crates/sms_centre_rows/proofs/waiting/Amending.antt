-- A row that is amended, looked up; and rows that are amended stay in order.
use Rattle.std.proofs.Common.{◌≡◌, ℕ, ◌<◌, List, [], ◌∷◌, Option, refl, sym, ◌∙◌, ap, subst, ⊎_elim, eq-eqb}
use Rattle.std.specs.Option.{option_map}
use Rattle.std.specs.Prelude.{◌==◌}
use Rattle.std.proofs.lemmas.Bool.{cases_eq, cond-true, cond-false, ne_eqb}
use Rattle.sms_rows.specs.table.Table.{AllAbove, Rises, row_at}
use Rattle.sms_rows.proofs.table.Tables.{row_behind, row_here}
use Rattle.sms_centre_rows.specs.declared.waiting.progress.Progress.{Progress}
use Rattle.sms_centre_rows.specs.waiting.Revisions.{amended}

module _ {A : Type 0} (key : A → ℕ) (reaching : Progress → A → A) (keeps : (q : Progress) (x : A) → key (reaching q x) ≡ key x) where
  amended_here : (n : ℕ) (q : Progress) (x : A) (xs : List A) → key x ≡ n → amended key reaching n q (x ∷ xs) ≡ reaching q x ∷ amended key reaching n q xs
  amended_here n q x xs e = ap (λ (y : A). y ∷ amended key reaching n q xs) (cond-true (key x == n) (reaching q x) x (eq-eqb (key x) n e))

  amended_behind : (n : ℕ) (q : Progress) (x : A) (xs : List A) → ¬ (key x ≡ n) → amended key reaching n q (x ∷ xs) ≡ x ∷ amended key reaching n q xs
  amended_behind n q x xs e = ap (λ (y : A). y ∷ amended key reaching n q xs) (cond-false (key x == n) (reaching q x) x (ne_eqb (key x) n e))

  -- the row of the key reaches so far
  pub row_at_amended : (n : ℕ) (q : Progress) (xs : List A) → row_at key n (amended key reaching n q xs) ≡ option_map (reaching q) (row_at key n xs)
  row_at_amended n q [] = refl
  row_at_amended n q (x ∷ xs) = ⊎_elim
      (λ (e : key x ≡ n).
      ap (λ (l : List A). row_at key n l) (amended_here n q x xs e) ∙ row_here key n (reaching q x) (amended key reaching n q xs) (keeps q x ∙ e)
      ∙ ap (λ (o : Option A). option_map (reaching q) o) (sym (row_here key n x xs e)))
      (λ (e : key x ≡ n → ⊥).
      ap (λ (l : List A). row_at key n l) (amended_behind n q x xs e) ∙ row_behind key n x (amended key reaching n q xs) e
      ∙ row_at_amended n q xs ∙ ap (λ (o : Option A). option_map (reaching q) o) (sym (row_behind key n x xs e)))
      (cases_eq (key x) n)

  -- and all others stay
  pub row_at_amended_other : (m n : ℕ) (q : Progress) (xs : List A) → ¬ (n ≡ m) → row_at key m (amended key reaching n q xs) ≡ row_at key m xs
  row_at_amended_other m n q [] ne = refl
  row_at_amended_other m n q (x ∷ xs) ne = ⊎_elim
      (λ (e : key x ≡ n).
      ap (λ (l : List A). row_at key m l) (amended_here n q x xs e)
      ∙ row_behind key m (reaching q x) (amended key reaching n q xs) (λ f. ne (sym e ∙ sym (keeps q x) ∙ f))
      ∙ row_at_amended_other m n q xs ne ∙ sym (row_behind key m x xs (λ f. ne (sym e ∙ f))))
      (λ (e : key x ≡ n → ⊥). ap (λ (l : List A). row_at key m l) (amended_behind n q x xs e) ∙ ⊎_elim
      (λ (f : key x ≡ m). row_here key m x (amended key reaching n q xs) f ∙ sym (row_here key m x xs f))
      (λ (f : key x ≡ m → ⊥). row_behind key m x (amended key reaching n q xs) f ∙ row_at_amended_other m n q xs ne ∙ sym (row_behind key m x xs f))
      (cases_eq (key x) m))
      (cases_eq (key x) n)

  above_amended : (a n : ℕ) (q : Progress) (xs : List A) → AllAbove key a xs → AllAbove key a (amended key reaching n q xs)
  above_amended a n q [] h = tt
  above_amended a n q (x ∷ xs) h = ⊎_elim
      (λ (e : key x ≡ n). subst (λ (l : List A). AllAbove key a l) (sym (amended_here n q x xs e))
      (subst (λ (k : ℕ). a < k) (sym (keeps q x)) h.0, above_amended a n q xs h.1))
      (λ (e : key x ≡ n → ⊥). subst (λ (l : List A). AllAbove key a l) (sym (amended_behind n q x xs e)) (h.0, above_amended a n q xs h.1))
      (cases_eq (key x) n)

  pub rises_amended : (n : ℕ) (q : Progress) (xs : List A) → Rises key xs → Rises key (amended key reaching n q xs)
  rises_amended n q [] h = tt
  rises_amended n q (x ∷ xs) h = ⊎_elim
      (λ (e : key x ≡ n). subst (λ (l : List A). Rises key l) (sym (amended_here n q x xs e))
      (subst (λ (k : ℕ). AllAbove key k (amended key reaching n q xs)) (sym (keeps q x)) (above_amended (key x) n q xs h.0), rises_amended n q xs h.1))
      (λ (e : key x ≡ n → ⊥). subst (λ (l : List A). Rises key l) (sym (amended_behind n q x xs e)) (above_amended (key x) n q xs h.0, rises_amended n q xs h.1))
      (cases_eq (key x) n)
