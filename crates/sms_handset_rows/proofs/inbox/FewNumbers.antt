-- Fewer numbers than the total are not all.
use Rattle.std.proofs.Common.{ℕ, List, [], ◌∷◌, ◌≡◌, eq-eqb, ◌≤◌, arith, length, ap, ⊎_elim, ◌<◌, Bool, true, sym, ◌∙◌, true≢false, refl, zero, suc, ◌+◌, ◌++◌, length-append, false}
use Rattle.std.specs.Prelude.{◌==◌, if◌then◌else◌, ◌||◌}
use Rattle.std.proofs.lemmas.Bool.{cond-true, cond-false, ne_eqb, cases_eq, and_from, and_parts, false_from_ne_true}
use Rattle.sms_handset_rows.specs.inbox.Groups.{is_among, all_numbers, part_numbers}
use Rattle.sms_handset_rows.specs.declared.inbox.entry.Entry.{Entry}

abbrev strip : ℕ → List ℕ → List ℕ
strip n [] = []
strip n (m ∷ ms) = if m == n then strip n ms else m ∷ strip n ms

strip_here : (n m : ℕ) (ms : List ℕ) → m ≡ n → strip n (m ∷ ms) ≡ strip n ms
strip_here n m ms e = cond-true (m == n) (strip n ms) (m ∷ strip n ms) (eq-eqb m n e)

strip_behind : (n m : ℕ) (ms : List ℕ) → ¬ (m ≡ n) → strip n (m ∷ ms) ≡ m ∷ strip n ms
strip_behind n m ms e = cond-false (m == n) (strip n ms) (m ∷ strip n ms) (ne_eqb m n e)

no_longer : (n : ℕ) (ms : List ℕ) → length (strip n ms) ≤ length ms
no_longer n [] = omega arith
no_longer n (m ∷ ms) = ⊎_elim
    (λ (e : m ≡ n). let q = ap (λ (l : List ℕ). length l) (strip_here n m ms e) in omega (arith, q, no_longer n ms))
    (λ (e : m ≡ n → ⊥). let q = ap (λ (l : List ℕ). length l) (strip_behind n m ms e) in omega (arith, q, no_longer n ms))
    (cases_eq m n)

shorter : (n : ℕ) (ms : List ℕ) → is_among n ms ≡ true → length (strip n ms) < length ms
shorter n [] h = absurd (true≢false (sym h))
shorter n (m ∷ ms) h = ⊎_elim
    (λ (e : m ≡ n). let q = ap (λ (l : List ℕ). length l) (strip_here n m ms e) in omega (arith, q, no_longer n ms))
    (λ (e : m ≡ n → ⊥).
    let q = ap (λ (l : List ℕ). length l) (strip_behind n m ms e) in
    let rest : is_among n ms ≡ true = sym (ap (λ (b : Bool). b || is_among n ms) (ne_eqb m n e)) ∙ h in
    omega (arith, q, shorter n ms rest))
    (cases_eq m n)

among_strip : (k n : ℕ) (ms : List ℕ) → ¬ (n ≡ k) → is_among k (strip n ms) ≡ is_among k ms
among_strip k n [] ne = refl
among_strip k n (m ∷ ms) ne = ⊎_elim
    (λ (e : m ≡ n).
    ap (λ (l : List ℕ). is_among k l) (strip_here n m ms e) ∙ among_strip k n ms ne
    ∙ sym (ap (λ (b : Bool). b || is_among k ms) (ne_eqb m k (λ f. ne (sym e ∙ f)))))
    (λ (e : m ≡ n → ⊥). ap (λ (l : List ℕ). is_among k l) (strip_behind n m ms e) ∙ ap (λ (b : Bool). m == k || b) (among_strip k n ms ne))
    (cases_eq m n)

all_strip : (t n : ℕ) (ms : List ℕ) → t < n → all_numbers t ms ≡ true → all_numbers t (strip n ms) ≡ true
all_strip zero n ms l h = refl
all_strip (suc t) n ms l h =
    let p = and_parts (is_among (suc t) ms) (all_numbers t ms) h in
    and_from (is_among (suc t) (strip n ms)) (all_numbers t (strip n ms))
    (among_strip (suc t) n ms (λ e. absurd (omega (arith, e, l))) ∙ p.0)
    (all_strip t n ms (omega (arith, l)) p.1)

pub as_many : (t : ℕ) (ms : List ℕ) → all_numbers t ms ≡ true → t ≤ length ms
as_many zero ms h = omega arith
as_many (suc t) ms h =
    let p = and_parts (is_among (suc t) ms) (all_numbers t ms) h in
    omega (arith, shorter (suc t) ms p.0, as_many t (strip (suc t) ms) (all_strip t (suc t) ms (omega arith) p.1))

length_numbers : (es : List Entry) → length (part_numbers es) ≡ length es
length_numbers [] = refl
length_numbers (e ∷ es) = ap suc (length_numbers es)

-- a group with fewer parts than its total is not full
pub too_few : (total : ℕ) (es : List Entry) (e : Entry) → length es + 1 < total → all_numbers total (part_numbers (es ++ e ∷ [])) ≡ false
too_few total es e l =
    false_from_ne_true (all_numbers total (part_numbers (es ++ e ∷ [])))
    (λ t. absurd (omega (arith, l, as_many total (part_numbers (es ++ e ∷ [])) t, length_numbers (es ++ e ∷ []), length-append es (e ∷ []))))
