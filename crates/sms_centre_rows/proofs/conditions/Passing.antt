-- Tests that each row of a list passes, and tests that hold together.
use Rattle.std.proofs.Common.{◌≡◌, List, [], ◌∷◌, Bool, true, Option, Some, None, refl, ◌∙◌, ap, inl, inr, ⊎_elim, is_some}
use Rattle.std.specs.List.{AllByRecursion, list_all}
use Rattle.std.proofs.lemmas.Bool.{and_from, and_parts}
use Rattle.sms_base.specs.Among.{Among}

pub each_from : {A : Type 0} (test : A → Bool) (xs : List A) → list_all test xs ≡ true → (x : A) → Among x xs → test x ≡ true
each_from test [] e x m = elim m [ ]
each_from test (y ∷ ys) e x m =
    let p = and_parts (test y) (list_all test ys) e in
    ⊎_elim (λ (q : x ≡ y). ap test q ∙ p.0) (λ (a : Among x ys). each_from test ys p.1 x a) m

pub each_to : {A : Type 0} (test : A → Bool) (xs : List A) → ((x : A) → Among x xs → test x ≡ true) → list_all test xs ≡ true
each_to test [] f = refl
each_to test (y ∷ ys) f = and_from (test y) (list_all test ys) (f y (inl refl)) (each_to test ys (λ x a. f x (inr a)))

pub all_from : {A : Type 0} (test : A → Bool) (xs : List A) → list_all test xs ≡ true → AllByRecursion (λ x. test x ≡ true) xs
all_from test [] e = tt
all_from test (y ∷ ys) e = let p = and_parts (test y) (list_all test ys) e in (p.0, all_from test ys p.1)

pub all_to : {A : Type 0} (test : A → Bool) (xs : List A) → AllByRecursion (λ x. test x ≡ true) xs → list_all test xs ≡ true
all_to test [] f = refl
all_to test (y ∷ ys) f = and_from (test y) (list_all test ys) f.0 (all_to test ys f.1)

pub there_is : {A : Type 0} (o : Option A) → is_some o ≡ true → (x : A) × (o ≡ Some x)
there_is None e = absurd cc
there_is (Some x) e = (x, refl)

pub is_there : {A : Type 0} (o : Option A) (x : A) → o ≡ Some x → is_some o ≡ true
is_there o x e = ap (λ p. is_some p) e
