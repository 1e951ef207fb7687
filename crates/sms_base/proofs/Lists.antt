-- What is among lists that are joined, and the items of a list.
use Rattle.std.proofs.Common.{◌≡◌, ◌⊎◌, ℕ, zero, suc, ◌+◌, ◌<◌, List, [], ◌∷◌, ◌++◌, length, drop, get_or, slice_get, Some, refl, sym, ◌∙◌, ap, inl, inr, ⊎_elim, arith}
use Rattle.std.specs.List.{AllByRecursion}
use Rattle.std.proofs.lemmas.List.{drop_more}
use Rattle.sms_base.specs.Among.{Among}

pub among_front : {A : Type 0} (x : A) (xs ys : List A) → Among x xs → Among x (xs ++ ys)
among_front x [] ys i = absurd i
among_front x (z ∷ zs) ys i = ⊎_elim (λ (e : x ≡ z). inl e) (λ (j : Among x zs). inr (among_front x zs ys j)) i

pub among_back : {A : Type 0} (x : A) (xs ys : List A) → Among x ys → Among x (xs ++ ys)
among_back x [] ys i = i
among_back x (z ∷ zs) ys i = inr (among_back x zs ys i)

pub among_parts : {A : Type 0} (x : A) (xs ys : List A) → Among x (xs ++ ys) → Among x xs ⊎ Among x ys
among_parts x [] ys i = inr i
among_parts x (z ∷ zs) ys i = ⊎_elim (λ (e : x ≡ z). inl (inl e)) (λ (j : Among x (zs ++ ys)). ⊎_elim (λ (k : Among x zs). inl (inr k)) (λ (k : Among x ys). inr k) (among_parts x zs ys j)) i

pub among_end : {A : Type 0} (x y : A) (ys : List A) → Among x (ys ++ y ∷ []) → Among x ys ⊎ (x ≡ y)
among_end x y [] i = ⊎_elim (λ (e : x ≡ y). inr e) (λ none. absurd none) i
among_end x y (z ∷ zs) i = ⊎_elim (λ (e : x ≡ z). inl (inl e)) (λ (j : Among x (zs ++ y ∷ [])). ⊎_elim (λ (k : Among x zs). inl (inr k)) (λ (e : x ≡ y). inr e) (among_end x y zs j)) i

pub all_append : {A : Type 0} (P : A → Type 0) (xs ys : List A) → AllByRecursion P xs → AllByRecursion P ys → AllByRecursion P (xs ++ ys)
all_append P [] ys h k = k
all_append P (x ∷ xs) ys h k = (h.0, all_append P xs ys h.1 k)

pub no_items : {A : Type 0} (xs : List A) → length xs ≡ 0 → xs ≡ []
no_items [] e = refl
no_items (x ∷ xs) e = absurd (omega (arith, e))

pub item_at : {A : Type 0} (xs : List A) (i : ℕ) → i < length xs → (x : A) × (slice_get xs i ≡ Some x)
item_at [] i few = absurd (let l : ⊥ = omega (arith, few) in l)
item_at (x ∷ xs) zero few = (x, refl)
item_at (x ∷ xs) (suc i) few = item_at xs i (omega (arith, few))

pub drop_item : {A : Type 0} (xs : List A) (i : ℕ) (x : A) → i < length xs → x ≡ get_or xs i x → drop i xs ≡ x ∷ drop (i + 1) xs
drop_item xs i x few is = drop_more xs i x few ∙ ap (λ y. y ∷ drop (i + 1) xs) (sym is)

pub drop_behind : {A : Type 0} (xs ys : List A) → drop (length xs) (xs ++ ys) ≡ ys
drop_behind [] ys = refl
drop_behind (x ∷ xs) ys = drop_behind xs ys
