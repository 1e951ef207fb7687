-- Where the first line of an input ends.
use Rattle.std.proofs.Common.{◌≡◌, ℕ, zero, suc, ◌+◌, ◌<◌, ◌≤◌, Bool, true, false, cond, eqb, ltb, List, [], ◌∷◌, length, get_or, take, drop, Some, None, refl, ap, arith, add-one}
use Rattle.std.specs.List.{position, position_or_len}
use Rattle.std.proofs.lemmas.List.Quantifiers.{position-Some}
use Rattle.std.proofs.lemmas.Bool.{ltb-false}
use Rattle.sms_relay_run.specs.Lines.{first_line, behind_line}

abbrev is_end : ℕ → Bool
is_end octet = eqb octet 10

ends_at : (xs : List ℕ) (k : ℕ) → k < length xs → is_end (get_or xs k 0) ≡ true → ((j : ℕ) → j < k → is_end (get_or xs j 0) ≡ false) → (take k xs ≡ first_line xs) × (drop (suc k) xs ≡ behind_line xs)
ends_at [] k lt e before = absurd (omega arith)
ends_at (x ∷ xs) zero lt e before = (rw e refl, rw e refl)
ends_at (x ∷ xs) (suc k) lt e before =
    let here : is_end x ≡ false = before 0 (omega arith) in
    let rest = ends_at xs k (omega arith) e (λ j l. before (suc j) (omega arith)) in
    (rw here (ap (λ (l : List ℕ). x ∷ l) rest.0), rw here rest.1)

pub end_found : (xs : List ℕ) (k : ℕ) → position is_end xs ≡ Some k → (take k xs ≡ first_line xs) × (drop (k + 1) xs ≡ behind_line xs)
end_found xs k e =
    let p = position-Some is_end xs k 0 e in
    rw add-one (ends_at xs k p.0 p.1 p.2)

no_end : (xs : List ℕ) → length xs ≤ position_or_len is_end xs → (xs ≡ first_line xs) × ([] ≡ behind_line xs)
no_end [] le = (refl, refl)
no_end (x ∷ xs) le = more (is_end x) refl le (no_end xs) where
  more : (b : Bool) → is_end x ≡ b → length (x ∷ xs) ≤ position_or_len is_end (x ∷ xs) → (length xs ≤ position_or_len is_end xs → (xs ≡ first_line xs) × ([] ≡ behind_line xs)) → (x ∷ xs ≡ first_line (x ∷ xs)) × ([] ≡ behind_line (x ∷ xs))
  more true here le again = let g = rw here at le in absurd (omega arith)
  more false here le again =
      let g = rw here at le in
      let rest = again (omega arith) in
      (rw here (ap (λ (l : List ℕ). x ∷ l) rest.0), rw here rest.1)

none_by : (xs : List ℕ) (b : Bool) → ltb (position_or_len is_end xs) (length xs) ≡ b → cond b (Some (position_or_len is_end xs)) None ≡ None → length xs ≤ position_or_len is_end xs
none_by xs true t e = absurd cc
none_by xs false t e = ltb-false _ _ t

pub no_end_found : (xs : List ℕ) → position is_end xs ≡ None → (xs ≡ first_line xs) × ([] ≡ behind_line xs)
no_end_found xs e = no_end xs (none_by xs (ltb (position_or_len is_end xs) (length xs)) refl e)
