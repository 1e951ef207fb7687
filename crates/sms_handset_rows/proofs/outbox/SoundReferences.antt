-- The next free reference is held by none, where few are held.
use Rattle.std.proofs.Common.{ℕ, List, [], ◌∷◌, ◌≡◌, ◌≤◌, arith, length, ap, ⊎_elim, ◌<◌, Bool, true, sym, ◌∙◌, refl, ◌+◌, ◌%◌, suc, zero, false}
use Rattle.std.specs.Prelude.{◌==◌, if◌then◌else◌, ◌||◌}
use Rattle.std.proofs.lemmas.Bool.{cond-true, eq-eqb, cond-false, ne_eqb, cases_eq, cases_Bool}
use Rattle.sms_handset_rows.specs.inbox.Groups.{is_among}
use Rattle.sms_handset_rows.specs.outbox.References.{free_from, next_free}
use Rattle.sms_handset_rows.proofs.outbox.FreeReferences.{free_here}

-- ---- a list without a number

without_number : ℕ → List ℕ → List ℕ
without_number n [] = []
without_number n (m ∷ ms) = if m == n then without_number n ms else m ∷ without_number n ms

without_same : (n m : ℕ) (ms : List ℕ) → m ≡ n → without_number n (m ∷ ms) ≡ without_number n ms
unfolding without_number
without_same n m ms e = cond-true (m == n) (without_number n ms) (m ∷ without_number n ms) (eq-eqb m n e)

without_other : (n m : ℕ) (ms : List ℕ) → ¬ (m ≡ n) → without_number n (m ∷ ms) ≡ m ∷ without_number n ms
unfolding without_number
without_other n m ms e = cond-false (m == n) (without_number n ms) (m ∷ without_number n ms) (ne_eqb m n e)

fewer : (n : ℕ) (ms : List ℕ) → length (without_number n ms) ≤ length ms
unfolding without_number
fewer n [] = omega arith
fewer n (m ∷ ms) = ⊎_elim
    (λ (e : m ≡ n). let s = ap (λ (l : List ℕ). length l) (without_same n m ms e) in omega (arith, fewer n ms))
    (λ (e : m ≡ n → ⊥). let s = ap (λ (l : List ℕ). length l) (without_other n m ms e) in omega (arith, fewer n ms))
    (cases_eq m n)

one_fewer : (n : ℕ) (ms : List ℕ) → is_among n ms ≡ true → length (without_number n ms) < length ms
unfolding without_number
one_fewer n [] h = absurd cc
one_fewer n (m ∷ ms) h = ⊎_elim
    (λ (e : m ≡ n). let s = ap (λ (l : List ℕ). length l) (without_same n m ms e) in omega (arith, fewer n ms))
    (λ (e : m ≡ n → ⊥).
    let s = ap (λ (l : List ℕ). length l) (without_other n m ms e) in
    let r : is_among n ms ≡ true = ap (λ (b : Bool). b || is_among n ms) (sym (ne_eqb m n e)) ∙ h in
    omega (arith, s, one_fewer n ms r))
    (cases_eq m n)

-- another number is among the rest where it was among all
among_rest : (n k : ℕ) (ms : List ℕ) → ¬ (k ≡ n) → is_among k (without_number n ms) ≡ is_among k ms
unfolding without_number
among_rest n k [] ne = refl
among_rest n k (m ∷ ms) ne = ⊎_elim
    (λ (e : m ≡ n).
    ap (λ (l : List ℕ). is_among k l) (without_same n m ms e) ∙ among_rest n k ms ne
    ∙ ap (λ (b : Bool). b || is_among k ms) (sym (ne_eqb m k (λ q. ne (sym q ∙ e)))))
    (λ (e : m ≡ n → ⊥).
    ap (λ (l : List ℕ). is_among k l) (without_other n m ms e)
    ∙ ap (λ (b : Bool). m == k || b) (among_rest n k ms ne))
    (cases_eq m n)

-- ---- the walk

-- a place on the way round, so many after the first
place : ℕ → ℕ → ℕ
place c i = (c + i) % 256

next_place : (c i : ℕ) → (place c i + 1) % 256 ≡ place c (suc i)
unfolding place
next_place c i = omega arith

places_differ : (c i j : ℕ) → i < j → j < i + 256 → ¬ (place c j ≡ place c i)
unfolding place
places_differ c i j l h e = absurd (omega arith)

free_next : (turns reference : ℕ) (held : List ℕ) → is_among reference held ≡ true → free_from (suc turns) reference held ≡ free_from turns ((reference + 1) % 256) held
unfolding free_from
free_next turns reference held e = cond-true (is_among reference held) (free_from turns ((reference + 1) % 256) held) reference e

-- the walk ends at one of the places that it has
record Ends (c i turns : ℕ) (held : List ℕ) : Type 0 where
  at : ℕ
  low : i ≤ at
  high : at ≤ i + turns
  is : free_from turns (place c i) held ≡ place c at

ends : (c i turns : ℕ) (held : List ℕ) → Ends c i turns held
unfolding free_from
ends c i zero held = record { at = i; low = omega arith; high = omega arith; is = refl }
ends c i (suc turns) held = ⊎_elim
    (λ (t : is_among (place c i) held ≡ true).
    let r = ends c (suc i) turns held in
    record {
      at = r.at;
      low = (let l = r.low in omega arith);
      high = (let l = r.high in omega arith);
      is = free_next turns (place c i) held t ∙ ap (λ (p : ℕ). free_from turns p held) (next_place c i) ∙ r.is;
    })
    (λ (f : is_among (place c i) held ≡ false). record { at = i; low = omega arith; high = omega arith; is = free_here (suc turns) (place c i) held f })
    (cases_Bool (is_among (place c i) held))

-- a number that the walk does not meet makes no difference
unmet : (c i turns n : ℕ) (held : List ℕ) → ((j : ℕ) → i ≤ j → j ≤ i + turns → ¬ (place c j ≡ n)) → free_from turns (place c i) (without_number n held) ≡ free_from turns (place c i) held
unfolding free_from
unmet c i zero n held h = refl
unmet c i (suc turns) n held h =
    let same = among_rest n (place c i) held (h i (omega arith) (omega arith)) in
    let later : free_from turns ((place c i + 1) % 256) (without_number n held) ≡ free_from turns ((place c i + 1) % 256) held =
    ap (λ (p : ℕ). free_from turns p (without_number n held)) (next_place c i)
    ∙ unmet c (suc i) turns n held (λ j l m. h j (omega arith) (omega arith))
    ∙ ap (λ (p : ℕ). free_from turns p held) (sym (next_place c i)) in
    ⊎_elim
    (λ (t : is_among (place c i) held ≡ true).
    free_next turns (place c i) (without_number n held) (same ∙ t) ∙ later ∙ sym (free_next turns (place c i) held t))
    (λ (f : is_among (place c i) held ≡ false).
    free_here (suc turns) (place c i) (without_number n held) (same ∙ f) ∙ sym (free_here (suc turns) (place c i) held f))
    (cases_Bool (is_among (place c i) held))

-- where no more are held than turns are left, the walk finds one that is not
finds : (c i turns : ℕ) (held : List ℕ) → length held ≤ turns → turns < 256 → is_among (free_from turns (place c i) held) held ≡ false
finds c i zero [] few turn = refl
finds c i zero (m ∷ ms) few turn = absurd (omega arith)
finds c i (suc turns) held few turn = ⊎_elim
    (λ (t : is_among (place c i) held ≡ true).
    let n = place c i in
    let rest = without_number n held in
    let less : length rest ≤ turns = omega (arith, one_fewer n held t) in
    let found = finds c (suc i) turns rest less (omega arith) in
    let apart : (j : ℕ) → suc i ≤ j → j ≤ suc i + turns → ¬ (place c j ≡ n) = λ j l m. places_differ c i j (omega arith) (omega arith) in
    let same : free_from turns (place c (suc i)) rest ≡ free_from turns (place c (suc i)) held = unmet c (suc i) turns n held apart in
    let e = ends c (suc i) turns held in
    let other : ¬ (free_from turns (place c (suc i)) held ≡ n) = λ q. apart e.at e.low e.high (sym e.is ∙ q) in
    let gone : is_among (free_from turns (place c (suc i)) held) held ≡ false =
    sym (among_rest n (free_from turns (place c (suc i)) held) held other) ∙ ap (λ (r : ℕ). is_among r rest) (sym same) ∙ found in
    ap (λ (r : ℕ). is_among r held) (free_next turns n held t ∙ ap (λ (p : ℕ). free_from turns p held) (next_place c i)) ∙ gone)
    (λ (f : is_among (place c i) held ≡ false). ap (λ (r : ℕ). is_among r held) (free_here (suc turns) (place c i) held f) ∙ f)
    (cases_Bool (is_among (place c i) held))

first_place : (reference : ℕ) → (reference + 1) % 256 ≡ place reference 1
unfolding place
first_place reference = refl

pub next_is_free : (reference : ℕ) (held : List ℕ) → length held ≤ 255 → is_among (next_free reference held) held ≡ false
next_is_free reference held few = ⊎_elim
    (λ (t : is_among reference held ≡ true).
    ap (λ (r : ℕ). is_among r held) (free_next 255 reference held t ∙ ap (λ (p : ℕ). free_from 255 p held) (first_place reference))
    ∙ finds reference 1 255 held few (omega arith))
    (λ (f : is_among reference held ≡ false). ap (λ (r : ℕ). is_among r held) (free_here 256 reference held f) ∙ f)
    (cases_Bool (is_among reference held))
