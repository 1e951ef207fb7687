-- Counts at places.
use Rattle.std.proofs.Common.{◌≡◌, ℕ, zero, suc, ◌<◌, List, [], ◌∷◌, ◌++◌, length, refl, sym, ◌∙◌, ap, ⊎_elim, nat_eq}
use Rattle.std.specs.Prelude.{if◌then◌else◌, slice_index, slice_set}
use Rattle.std.proofs.lemmas.Bool.{cases_eq, cond-false, cond-true, eq-eqb, ne_eqb}
use Rattle.std.proofs.lemmas.List.{get_or-set_other, get_or-set_same, get_or_push}

pub set_as : (ns : List ℕ) (place count other : ℕ) → place < length ns → slice_index (slice_set ns place count) other ≡ (if nat_eq place other then count else slice_index ns other)
set_as ns place count other l = ⊎_elim
    (λ (e : place ≡ other).
    ap (λ (k : ℕ). slice_index (slice_set ns place count) k) (sym e) ∙ get_or-set_same ns place count 0 l ∙ sym (cond-true (nat_eq place other) count (slice_index ns other) (eq-eqb place other e)))
    (λ (ne : place ≡ other → ⊥).
    get_or-set_other ns place other count 0 (λ q. ne (sym q)) ∙ sym (cond-false (nat_eq place other) count (slice_index ns other) (ne_eqb place other ne)))
    (cases_eq place other)

push_other : (ns : List ℕ) (count other : ℕ) → ¬ (length ns ≡ other) → slice_index (ns ++ count ∷ []) other ≡ slice_index ns other
push_other [] count zero ne = absurd (ne refl)
push_other [] count (suc other) ne = refl
push_other (n ∷ ns) count zero ne = refl
push_other (n ∷ ns) count (suc other) ne = push_other ns count other (λ e. ne (ap suc e))

pub push_as : (ns : List ℕ) (place count other : ℕ) → place ≡ length ns → slice_index (ns ++ count ∷ []) other ≡ (if nat_eq place other then count else slice_index ns other)
push_as ns place count other at = ⊎_elim
    (λ (e : place ≡ other).
    get_or_push ns count 0 other (sym at ∙ e) ∙ sym (cond-true (nat_eq place other) count (slice_index ns other) (eq-eqb place other e)))
    (λ (ne : place ≡ other → ⊥).
    push_other ns count other (λ q. ne (at ∙ q)) ∙ sym (cond-false (nat_eq place other) count (slice_index ns other) (ne_eqb place other ne)))
    (cases_eq place other)
