-- Digits that are read two by two.
use Rattle.std.proofs.Common.{◌≡◌, ℕ, zero, suc, ◌+◌, ◌-◌, ◌*◌, ◌/◌, ◌%◌, ◌<◌, ◌≤◌, List, [], ◌∷◌, ◌++◌, length, Result, Ok, Err, refl, sym, ap, ◌∙◌, append_assoc, arith}
use Rattle.std.proofs.lemmas.List.{append-nil, length_push}
use Rattle.sms_tpdu.specs.declared.fault.TpduFault.{TpduFault}
use Rattle.sms_base.specs.Reading.{◌>>=◌}
use Rattle.sms_tpdu.specs.AddressReading.{two_digits_in, last_digit_in, digits_in}

-- the digits that were read before, and those that are still read
abbrev pub with_front : List ℕ → Result (List ℕ × List ℕ) TpduFault → Result (List ℕ × List ℕ) TpduFault
with_front front read = read >>= λ x. Ok (front ++ x.0, x.1)

pub record ReadsOn (digits rest : List ℕ) (count pairs : ℕ) (total : Result (List ℕ × List ℕ) TpduFault) : Type 0 where
  pub len : length digits ≡ 2 * pairs
  pub same : with_front digits (digits_in (count - 2 * pairs) rest) ≡ total

plain : (read : Result (List ℕ × List ℕ) TpduFault) → with_front [] read ≡ read
plain (Ok x) = refl
plain (Err e) = refl

pub starts : (rest : List ℕ) (count : ℕ) → ReadsOn [] rest count 0 (digits_in count rest)
starts rest count =
    let k : count - 2 * 0 ≡ count = omega arith in
    record { len = refl; same = rw k (plain (digits_in count rest)) }

regroup : (front : List ℕ) (a b : ℕ) (read : Result (List ℕ × List ℕ) TpduFault) → with_front front (read >>= λ x. Ok (a ∷ b ∷ x.0, x.1)) ≡ with_front ((front ++ a ∷ []) ++ b ∷ []) read
regroup front a b (Ok x) = ap (λ (ds : List ℕ). Ok (ds, x.1)) (simp append_assoc)
regroup front a b (Err f) = refl

pub goes_on : (front rest : List ℕ) (count i low high : ℕ) (after : List ℕ) (total : Result (List ℕ × List ℕ) TpduFault) → i < count / 2 → two_digits_in rest ≡ Ok ((low, high), after)
    → ReadsOn front rest count i total → ReadsOn ((front ++ low ∷ []) ++ high ∷ []) after count (i + 1) total
unfolding digits_in
goes_on front rest count i low high after total lt h so_far =
    let k : count - 2 * i ≡ suc (suc (count - 2 * (i + 1))) = omega arith in
    let one : with_front front (digits_in (count - 2 * i) rest) ≡ with_front ((front ++ low ∷ []) ++ high ∷ []) (digits_in (count - 2 * (i + 1)) after) = rw (k, h) (regroup front low high (digits_in (count - 2 * (i + 1)) after)) in
    record { len = omega (arith, so_far.len, length_push front low, length_push (front ++ low ∷ []) high); same = sym one ∙ so_far.same }

pub pair_fails : (front rest : List ℕ) (count i : ℕ) (e : TpduFault) (total : Result (List ℕ × List ℕ) TpduFault) → i < count / 2 → two_digits_in rest ≡ Err e
    → ReadsOn front rest count i total → total ≡ Err e
unfolding digits_in
pair_fails front rest count i e total lt h so_far =
    let k : count - 2 * i ≡ suc (suc (count - 2 * (i + 1))) = omega arith in
    let one : with_front front (digits_in (count - 2 * i) rest) ≡ Err e = rw (k, h) refl in
    sym so_far.same ∙ one

pub last_fails : (front rest : List ℕ) (count i : ℕ) (e : TpduFault) (total : Result (List ℕ × List ℕ) TpduFault) → count / 2 ≤ i → i ≤ count / 2 → count % 2 ≡ 1 → last_digit_in rest ≡ Err e
    → ReadsOn front rest count i total → total ≡ Err e
unfolding digits_in
last_fails front rest count i e total le ge odd h so_far =
    let k : count - 2 * i ≡ suc zero = omega arith in
    let one : with_front front (digits_in (count - 2 * i) rest) ≡ Err e = rw (k, h) refl in
    sym so_far.same ∙ one

pub ends_odd : (front rest : List ℕ) (count i d : ℕ) (after : List ℕ) (total : Result (List ℕ × List ℕ) TpduFault) → count / 2 ≤ i → i ≤ count / 2 → count % 2 ≡ 1 → last_digit_in rest ≡ Ok (d, after)
    → ReadsOn front rest count i total → total ≡ Ok (front ++ d ∷ [], after)
unfolding digits_in
ends_odd front rest count i d after total le ge odd h so_far =
    let k : count - 2 * i ≡ suc zero = omega arith in
    let one : with_front front (digits_in (count - 2 * i) rest) ≡ Ok (front ++ d ∷ [], after) = rw (k, h) refl in
    sym so_far.same ∙ one

pub ends_even : (front rest : List ℕ) (count i : ℕ) (total : Result (List ℕ × List ℕ) TpduFault) → count / 2 ≤ i → i ≤ count / 2 → (count % 2 ≡ 1 → ⊥)
    → ReadsOn front rest count i total → total ≡ Ok (front, rest)
unfolding digits_in
ends_even front rest count i total le ge even so_far =
    let k : count - 2 * i ≡ zero = omega arith in
    let one : with_front front (digits_in (count - 2 * i) rest) ≡ Ok (front, rest) = rw k (ap (λ (ds : List ℕ). Ok (ds, rest)) (append-nil front)) in
    sym so_far.same ∙ one
