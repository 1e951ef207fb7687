-- Readings of a list that was cut: they read the same or answer the fault of a list that ends too early.
use Rattle.std.proofs.Common.{◌≡◌, ℕ, ◌≤◌, Bool, true, false, ltb, List, [], ◌∷◌, ◌++◌, length, take, drop, Result, Ok, Err, refl, sym, ap, subst, ◌∙◌, arith, inl, inr, append_assoc}
use Rattle.std.specs.Prelude.{◌⊎◌}
use Rattle.std.proofs.lemmas.Bool.{ltb-false}
use Rattle.std.proofs.lemmas.List.{take-append-drop, length-take}
use Rattle.sms_base.specs.Reading.{◌>>=◌, only_if, octet_in, run_in, end_in}
use Rattle.sms_base.proofs.Steps.{bind_ok, ok_is, run_again}

-- A reading of a front whose longer list reads as z: the same value, with so much less behind it, or the fault.
abbrev pub Less : {X E : Type 0} → E → Result (X × List ℕ) E → List ℕ → X × List ℕ → Type 0
Less fault read ys z = ((left : List ℕ) × (read ≡ Ok (z.0, left)) × (left ++ ys ≡ z.1)) ⊎ (read ≡ Err fault)

-- What is read of a list is read of its front too, or the front ends too early.
abbrev pub CutsShort : {X E : Type 0} → E → (List ℕ → Result (X × List ℕ) E) → Type 0
CutsShort {X} {E} fault read = (xs ys : List ℕ) (z : X × List ℕ) → read (xs ++ ys) ≡ Ok z → Less fault (read xs) ys z

-- A whole list is read: a proper front of it ends too early.
abbrev pub CutsWhole : {Z E : Type 0} → E → (List ℕ → Result Z E) → Type 0
CutsWhole {Z} {E} fault read = (xs ys : List ℕ) (z : Z) → read (xs ++ ys) ≡ Ok z → (ys ≡ []) ⊎ (read xs ≡ Err fault)

less : {X E : Type 0} (f : E) (r : Result (X × List ℕ) E) (x : X) (left ys : List ℕ) (z : X × List ℕ) → r ≡ Ok (x, left) → (let w : X × List ℕ = (x, left ++ ys) in w ≡ z) → Less f r ys z
less {X} {E} f r x left ys z p e = subst (λ (y : X × List ℕ). Less f r ys y) e (inl (left, p, refl))

pub cuts_octet : {E : Type 0} (f : E) → CutsShort f (octet_in f)
cuts_octet f [] ys z e = inr refl
cuts_octet {E} f (o ∷ xs) ys z e = less f (Ok (o, xs)) o xs ys z refl (ok_is {E = E} (o, xs ++ ys) z e)

cut_run : {E : Type 0} (f : E) (n : ℕ) (xs ys : List ℕ) (z : List ℕ × List ℕ) (b : Bool) → ltb (length xs) n ≡ b → run_in f n (xs ++ ys) ≡ Ok z → Less f (run_in f n xs) ys z
unfolding run_in
cut_run f n xs ys z true t e = inr (rw t refl)
cut_run {E} f n xs ys z false t e =
    let long : n ≤ length xs = ltb-false _ _ t in
    let same : xs ++ ys ≡ take n xs ++ (drop n xs ++ ys) = ap (λ (l : List ℕ). l ++ ys) (sym (take-append-drop n xs)) ∙ append_assoc (take n xs) (drop n xs) ys in
    let len : length (take n xs) ≡ n = omega (arith, length-take n xs) in
    let again : run_in f n (xs ++ ys) ≡ Ok (take n xs, drop n xs ++ ys) = ap (λ (l : List ℕ). run_in f n l) same ∙ run_again f n (take n xs) (drop n xs ++ ys) len in
    less f (run_in f n xs) (take n xs) (drop n xs) ys z (rw t refl) (ok_is {E = E} (take n xs, drop n xs ++ ys) z (sym again ∙ e))

pub cuts_run : {E : Type 0} (f : E) (n : ℕ) → CutsShort f (run_in f n)
cuts_run f n xs ys z e = cut_run f n xs ys z (ltb (length xs) n) refl e

pub cuts_pure : {X E : Type 0} (f : E) (x : X) → CutsShort {X = X} {E = E} f (λ xs. Ok (x, xs))
cuts_pure {X} {E} f x xs ys z e = less f (Ok (x, xs)) x xs ys z refl (ok_is {E = E} (x, xs ++ ys) z e)

-- one reading behind another
pub cuts_bind : {X Y E : Type 0} (f : E) (r : List ℕ → Result (X × List ℕ) E) (k : X × List ℕ → Result (Y × List ℕ) E)
    → CutsShort f r → ((x : X) → CutsShort f (λ rest. k (x, rest))) → CutsShort f (λ xs. r xs >>= k)
cuts_bind {X} {Y} {E} f r k hr hk xs ys z e =
    let a = bind_ok (r (xs ++ ys)) k z e in
    elim (hr xs ys a.0 a.1) [
      | inl p ↦
          let same : k (a.0.0, p.0 ++ ys) ≡ Ok z = ap (λ (l : List ℕ). k (a.0.0, l)) p.2 ∙ a.2 in
          let step : (r xs >>= k) ≡ k (a.0.0, p.0) = ap (λ (m : Result (X × List ℕ) E). m >>= k) p.1 in
          elim (hk a.0.0 p.0 ys z same) [
            | inl q ↦ inl (q.0, step ∙ q.1, q.2)
            | inr q ↦ inr (step ∙ q)
          ]
      | inr p ↦ inr (ap (λ (m : Result (X × List ℕ) E). m >>= k) p)
    ]

-- a test of what was read before
pub cuts_test : {X E : Type 0} (f : E) (b : Bool) (bad : E) (r : List ℕ → Result (X × List ℕ) E)
    → CutsShort f r → CutsShort f (λ xs. only_if b bad >>= (λ u. r xs))
cuts_test f true bad r h xs ys z e = h xs ys z e
cuts_test f false bad r h xs ys z e = absurd cc

pub whole_bind : {X Z E : Type 0} (f : E) (r : List ℕ → Result (X × List ℕ) E) (k : X × List ℕ → Result Z E)
    → CutsShort f r → ((x : X) → CutsWhole f (λ rest. k (x, rest))) → CutsWhole f (λ xs. r xs >>= k)
whole_bind {X} {Z} {E} f r k hr hk xs ys z e =
    let a = bind_ok (r (xs ++ ys)) k z e in
    elim (hr xs ys a.0 a.1) [
      | inl p ↦
          let same : k (a.0.0, p.0 ++ ys) ≡ Ok z = ap (λ (l : List ℕ). k (a.0.0, l)) p.2 ∙ a.2 in
          let step : (r xs >>= k) ≡ k (a.0.0, p.0) = ap (λ (m : Result (X × List ℕ) E). m >>= k) p.1 in
          elim (hk a.0.0 p.0 ys z same) [
            | inl q ↦ inl q
            | inr q ↦ inr (step ∙ q)
          ]
      | inr p ↦ inr (ap (λ (m : Result (X × List ℕ) E). m >>= k) p)
    ]

pub whole_test : {Z E : Type 0} (f : E) (b : Bool) (bad : E) (r : List ℕ → Result Z E)
    → CutsWhole f r → CutsWhole f (λ xs. only_if b bad >>= (λ u. r xs))
whole_test f true bad r h xs ys z e = h xs ys z e
whole_test f false bad r h xs ys z e = absurd cc

-- the end of the list
pub whole_end : {Z E : Type 0} (f bad : E) (v : Z) → CutsWhole f (λ xs. end_in bad xs >>= (λ u. Ok v))
whole_end f bad v [] [] z e = inl refl
whole_end f bad v [] (y ∷ ys) z e = absurd cc
whole_end f bad v (o ∷ xs) ys z e = absurd cc
