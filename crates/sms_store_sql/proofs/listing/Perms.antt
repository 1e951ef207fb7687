-- Lists in the order of their keys, up to order.
use Rattle.std.proofs.Common.{◌≡◌, ℕ, ℤ, List, [], ◌∷◌, ◌++◌, map, Bool, true, false, not, cond, ◌==◌, refl, ap, nat_lt}
use Rattle.std.specs.List.{AllByRecursion}
use Rattle.std.specs.List.Sorted.{IsPermutation}
use Rattle.std.proofs.lemmas.List.Sorted.{IsPermutation-refl, IsPermutation-cons, IsPermutation-trans, IsPermutation-middle, IsPermutation-append_comm}
use Rattle.sqlite_keyed.specs.Lists.{delete_where}
use Rattle.sqlite_keyed.proofs.ListLemmas.{along_permutation}
use Rattle.sms_rows.specs.table.Table.{without, insert}

module _ {X : Type 0} (key : X → ℕ) where
  swapped : (x y : X) (xs : List X) → IsPermutation (x ∷ y ∷ xs) (y ∷ x ∷ xs)
  swapped x y xs = IsPermutation-middle (x ∷ []) y xs

  -- removal does not look at the order
  pub permuted_without : (n : ℕ) (xs ys : List X) → IsPermutation xs ys → IsPermutation (without key n xs) (without key n ys)
  permuted_without n = along_permutation (λ xs ys. IsPermutation (without key n xs) (without key n ys)) (λ xs. IsPermutation-refl _) skip turn (λ xs ys zs p q. IsPermutation-trans _ _ _ p q)
    where
      skip : (x : X) (xs ys : List X) → IsPermutation (without key n xs) (without key n ys) → IsPermutation (without key n (x ∷ xs)) (without key n (x ∷ ys))
      skip x xs ys h = elim (key x == n) as (λ b. IsPermutation (cond b (without key n xs) (x ∷ without key n xs)) (cond b (without key n ys) (x ∷ without key n ys)))
          [ true ↦ h | false ↦ IsPermutation-cons x _ _ h ]

      turn : (x y : X) (xs : List X) → IsPermutation (without key n (x ∷ y ∷ xs)) (without key n (y ∷ x ∷ xs))
      turn x y xs = go (key x == n) (key y == n)
        where
          go : (a b : Bool) → IsPermutation (cond a (cond b (without key n xs) (y ∷ without key n xs)) (x ∷ cond b (without key n xs) (y ∷ without key n xs)))
              (cond b (cond a (without key n xs) (x ∷ without key n xs)) (y ∷ cond a (without key n xs) (x ∷ without key n xs)))
          go true true = IsPermutation-refl _
          go true false = IsPermutation-refl _
          go false true = IsPermutation-refl _
          go false false = swapped x y _

  -- where a row comes in does not matter
  pub permuted_insert : (x : X) (xs : List X) → IsPermutation (x ∷ xs) (insert key x xs)
  permuted_insert x [] = IsPermutation-refl _
  permuted_insert x (y ∷ ys) = elim (nat_lt (key x) (key y)) as (λ b. IsPermutation (x ∷ y ∷ ys) (cond b (x ∷ y ∷ ys) (y ∷ insert key x ys)))
      [ true ↦ IsPermutation-refl _ | false ↦ IsPermutation-trans _ _ _ (swapped x y ys) (IsPermutation-cons y _ _ (permuted_insert x ys)) ]

  pub permuted_more : (x : X) (xs ys : List X) → IsPermutation xs ys → IsPermutation (xs ++ x ∷ []) (insert key x ys)
  permuted_more x xs ys h = IsPermutation-trans _ _ _ (IsPermutation-append_comm xs (x ∷ [])) (IsPermutation-trans _ _ _ (IsPermutation-cons x _ _ h) (permuted_insert x ys))

  pub all_without : (P : X → Type 0) (n : ℕ) (xs : List X) → AllByRecursion P xs → AllByRecursion P (without key n xs)
  all_without P n [] h = tt
  all_without P n (x ∷ xs) h = elim (key x == n) as (λ b. AllByRecursion P (cond b (without key n xs) (x ∷ without key n xs)))
      [ true ↦ all_without P n xs h.1 | false ↦ (h.0, all_without P n xs h.1) ]

  -- the rows that are left where the rows of a key are deleted
  pub left_values : (n : ℕ) (p : ℤ × X → Bool) (es : List (ℤ × X)) → AllByRecursion (λ (e : ℤ × X). p e ≡ (key e.1 == n)) es
      → map (λ (e : ℤ × X). e.1) (delete_where p es) ≡ without key n (map (λ (e : ℤ × X). e.1) es)
  left_values n p [] h = refl
  left_values n p (e ∷ es) h = go (p e) (key e.1 == n) h.0 (left_values n p es h.1)
    where
      go : (a b : Bool) → a ≡ b → map (λ (e : ℤ × X). e.1) (delete_where p es) ≡ without key n (map (λ (e : ℤ × X). e.1) es)
          → map (λ (e : ℤ × X). e.1) (cond (not a) (e ∷ delete_where p es) (delete_where p es)) ≡ cond b (without key n (map (λ (e : ℤ × X). e.1) es)) (e.1 ∷ without key n (map (λ (e : ℤ × X). e.1) es))
      go true true s more = more
      go false false s more = ap (λ l. e.1 ∷ l) more
      go true false s more = absurd cc
      go false true s more = absurd cc

pub all_end : {X : Type 0} (P : X → Type 0) (x : X) (xs : List X) → AllByRecursion P xs → P x → AllByRecursion P (xs ++ x ∷ [])
all_end P x [] h p = (p, tt)
all_end P x (y ∷ ys) h p = (h.0, all_end P x ys h.1 p)

pub all_mapped : {A B : Type 0} (f : A → B) (P : B → Type 0) (Q : A → Type 0) → ((a : A) → P (f a) → Q a) → (xs : List A) → AllByRecursion P (map f xs) → AllByRecursion Q xs
all_mapped f P Q g [] h = tt
all_mapped f P Q g (x ∷ xs) h = (g x h.0, all_mapped f P Q g xs h.1)
