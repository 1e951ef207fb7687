-- Lists of views, and functions on numbers that change at one place.
use Rattle.std.proofs.Common.{◌≡◌, ◌≢◌, ◌==◌, ◌⊎◌, ℕ, zero, suc, if◌then◌else◌, List, [], ◌∷◌, ◌++◌, length, set, sym, refl, ap, ◌∙◌, subst, inl, inr, ⊎_elim, Some, Result, Ok, Err, IfOk, slice_get, map, arith, ◌+◌, length-append}
use Rattle.std.proofs.lemmas.Option.{none-some}
use Rattle.std.proofs.lemmas.Bool.{eq-eqb, ne_eqb}
use mathlib.Core.Option.{some, some-injective, some-ne-none}
use lib.ListN.{get_elem?}
use Rattle.crossbeam_queue.proofs.Lists.{at_set}

module _ {A : Type 0} where
  abbrev pub At : (ℕ → A → Type 0) → List A → Type 0
  At F views = (port : ℕ) (v : A) → get_elem? views port ≡ some v → F port v

  pub at_one : (F : ℕ → A → Type 0) (a : A) → F 0 a → At F (a ∷ [])
  at_one F a f zero v e = let P : A → Type 0 = λ x. F 0 x in subst P (some-injective a v e) f
  at_one F a f (suc j) v e = absurd (some-ne-none v (sym e))

  pub set_at : (F : ℕ → A → Type 0) (views : List A) (port : ℕ) (w : A) → F port w → ((j : ℕ) (u : A) → j ≢ port → get_elem? views j ≡ some u → F j u) → At F (set views port w)
  set_at F views port w mine others j u e = ⊎_elim (λ (x : (j ≡ port) × (w ≡ u)). let P : ℕ × A → Type 0 = λ y. F y.0 y.1 in subst P (λ i. (sym x.0 i, x.1 i)) mine)
      (λ (x : (j ≢ port) × (get_elem? views j ≡ some u)). others j u x.0 x.1) (at_set views port j w u e)

  at_new : (l : List A) (a b : A) (j : ℕ) → get_elem? (l ++ a ∷ []) j ≡ some b → (get_elem? l j ≡ some b) ⊎ ((j ≡ length l) × (a ≡ b))
  at_new [] a b zero e = inr (refl, some-injective a b e)
  at_new [] a b (suc j) e = absurd (some-ne-none b (sym e))
  at_new (x ∷ xs) a b zero e = inl e
  at_new (x ∷ xs) a b (suc j) e = ⊎_elim (λ p. inl p) (λ p. inr (ap suc p.0, p.1)) (at_new xs a b j e)

  pub snoc_at : (F : ℕ → A → Type 0) (views : List A) (a : A) → At F views → F (length views) a → At F (views ++ a ∷ [])
  snoc_at F views a old mine j u e = ⊎_elim (λ p. old j u p)
      (λ (x : (j ≡ length views) × (a ≡ u)). let P : ℕ × A → Type 0 = λ y. F y.0 y.1 in subst P (λ i. (sym x.0 i, x.1 i)) mine) (at_new views a u j e)

  -- the function f with a at k
  abbrev pub upd : (ℕ → A) → ℕ → A → ℕ → A
  upd f k a s = if s == k then a else f s

  pub upd_here : (f : ℕ → A) (k : ℕ) (a : A) (s : ℕ) → s ≡ k → upd f k a s ≡ a
  upd_here f k a s e = ap (λ b. if b then a else f s) (eq-eqb s k e)

  pub upd_else : (f : ℕ → A) (k : ℕ) (a : A) (s : ℕ) → s ≢ k → upd f k a s ≡ f s
  upd_else f k a s n = ap (λ b. if b then a else f s) (ne_eqb s k n)

  pub length_nil : (xs : List A) → length xs ≡ 0 → xs ≡ []
  length_nil [] e = refl
  length_nil (x ∷ xs) e = absurd (omega arith)

  pub length_snoc : (xs : List A) (y : A) (zs : List A) → zs ≡ xs ++ y ∷ [] → length zs ≡ length xs + 1
  length_snoc xs y zs e = ap length e ∙ length-append xs (y ∷ [])

  pub slice_get_snoc : (xs : List A) (y x : A) (k : ℕ) → slice_get (xs ++ y ∷ []) k ≡ Some x → (slice_get xs k ≡ Some x) ⊎ ((k ≡ length xs) × (y ≡ x))
  slice_get_snoc [] y x zero e = inr (refl, cc)
  slice_get_snoc [] y x (suc k) e = inl e
  slice_get_snoc (z ∷ xs) y x zero e = inl e
  slice_get_snoc (z ∷ xs) y x (suc k) e = ⊎_elim (λ p. inl p) (λ p. inr (ap suc p.0, p.1)) (slice_get_snoc xs y x k e)

  pub slice_get_longer : (xs ys : List A) (x : A) (k : ℕ) → slice_get xs k ≡ Some x → slice_get (xs ++ ys) k ≡ Some x
  slice_get_longer [] ys x k e = absurd (none-some x e)
  slice_get_longer (z ∷ xs) ys x zero e = e
  slice_get_longer (z ∷ xs) ys x (suc k) e = slice_get_longer xs ys x k e

module _ {A B : Type 0} where
  pub slice_get_last : (f : A → B) (xs : List A) (y : A) (k : ℕ) → k ≡ length xs → slice_get (map f (xs ++ y ∷ [])) k ≡ Some (f y)
  slice_get_last f [] y zero e = refl
  slice_get_last f [] y (suc k) e = absurd (omega arith)
  slice_get_last f (x ∷ xs) y zero e = absurd (omega arith)
  slice_get_last f (x ∷ xs) y (suc k) e = slice_get_last f xs y k (omega arith)

  pub slice_get_map_longer : (f : A → B) (xs ys : List A) (x : B) (k : ℕ) → slice_get (map f xs) k ≡ Some x → slice_get (map f (xs ++ ys)) k ≡ Some x
  slice_get_map_longer f [] ys x k e = absurd (none-some x e)
  slice_get_map_longer f (z ∷ xs) ys x zero e = e
  slice_get_map_longer f (z ∷ xs) ys x (suc k) e = slice_get_map_longer f xs ys x k e

  pub ok_map : (r : Result A B) (P Q : A → Type 0) → ((x : A) → P x → Q x) → IfOk r P → IfOk r Q
  ok_map (Ok x) P Q f h = f x h
  ok_map (Err e) P Q f h = tt
