-- Decimal digits, one by one, within 64 bits.
use Rattle.std.proofs.Common.{◌≡◌, ℕ, suc, ◌+◌, ◌-◌, ◌*◌, ◌<◌, ◌≤◌, Bool, true, false, cond, List, [], ◌∷◌, length, drop, get_or, Result, Ok, Err, refl, sym, ap, ◌∙◌, arith, inl, inr, ⊎_elim, ◌⊎◌}
use Rattle.std.specs.Prelude.{min, ◌&&◌}
use Rattle.std.specs.Char.{is_ascii_digit, digit_value}
use Rattle.std.specs.Str.{all_ascii_digits}
use Rattle.std.specs.Str.Parse.{digits_value_after}
use Rattle.std.proofs.lemmas.Bool.{cases_lt}
use Rattle.std.proofs.lemmas.Grind.{common_steps}
use Rattle.std.proofs.lemmas.List.{drop_all}
use Rattle.std.proofs.Math.Seq.{drop-cons}
use Rattle.sms_base.specs.Reading.{◌>>=◌}
use Rattle.sms_script.specs.Numbers.{greatest, number_of, with_digit, number_on}
use Rattle.sms_script.specs.declared.fault.LineFault.{LineFault}
use Rattle.sms_script.specs.declared.fault.LineFault.TheVariants.{BadLine}

-- more digits make no number smaller
grows : (n : ℕ) (cs : List ℕ) → n ≤ digits_value_after 10 n cs
grows n [] = omega arith
grows n (c ∷ cs) = let h = grows (n * 10 + digit_value c) cs in omega arith

-- and none whose front is past the limit comes below it
capped : (m n : ℕ) (cs : List ℕ) → min m greatest ≡ min n greatest → min (digits_value_after 10 m cs) greatest ≡ min (digits_value_after 10 n cs) greatest
capped m n cs e =
    ⊎_elim
    (λ (h : (m < greatest) × (n < greatest)). let same : m ≡ n = omega arith in ap (λ (k : ℕ). min (digits_value_after 10 k cs) greatest) same)
    (λ (h : (greatest ≤ m) × (greatest ≤ n)). let a = grows m cs in let b = grows n cs in omega arith)
    (sides m n e)
  where
    sides : (m n : ℕ) → min m greatest ≡ min n greatest → ((m < greatest) × (n < greatest)) ⊎ ((greatest ≤ m) × (greatest ≤ n))
    sides m n e = ⊎_elim (λ (h : m < greatest). inl (h, omega arith)) (λ (h : greatest ≤ m). inr (h, omega arith)) (cases_lt m greatest)

digit_is : (c : ℕ) → is_ascii_digit c ≡ true → digit_value c ≡ c - 48
digit_is c e = grind (arith, common_steps)

pub number_begins : (word : List ℕ) → number_of word ≡ number_on 0 word
unfolding number_of
number_begins word = refl

-- the first of the digits that are left
pub number_goes_on : (number octet : ℕ) (octets : List ℕ) → number_on number (octet ∷ octets) ≡ with_digit number octet >>= (λ n. number_on n octets)
number_goes_on number octet octets = by (is_ascii_digit octet) refl where
  by : (b : Bool) → is_ascii_digit octet ≡ b →
      cond (b && all_ascii_digits octets) (Ok (min (digits_value_after 10 (number * 10 + digit_value octet) octets) greatest)) (Err BadLine)
      ≡ (cond b (Ok (min (min (number * 10) greatest + (octet - 48)) greatest)) (Err BadLine)) >>= (λ n. number_on n octets)
  by true e =
      let d = digit_is octet e in
      let same : min (number * 10 + digit_value octet) greatest ≡ min (min (min (number * 10) greatest + (octet - 48)) greatest) greatest = omega arith in
      ap (λ (k : ℕ). cond (all_ascii_digits octets) (Ok k) (Err BadLine)) (capped (number * 10 + digit_value octet) (min (min (number * 10) greatest + (octet - 48)) greatest) octets same)
  by false e = refl

pub number_steps : (word : List ℕ) (i number next : ℕ) → i < length word → number_of word ≡ number_on number (drop i word) →
    Ok next ≡ with_digit number (get_or word i 0) → number_of word ≡ number_on next (drop (suc i) word)
number_steps word i number next lt before now =
    let left : drop i word ≡ get_or word i 0 ∷ drop (suc i) word = drop-cons word i 0 lt in
    before ∙ ap (λ (l : List ℕ). number_on number l) left ∙ number_goes_on number (get_or word i 0) (drop (suc i) word)
    ∙ ap (λ (r : Result ℕ LineFault). r >>= (λ n. number_on n (drop (suc i) word))) (sym now)

pub number_ends : (word : List ℕ) (i number : ℕ) → length word ≤ i → number ≤ greatest → number_of word ≡ number_on number (drop i word) → Ok number ≡ number_of word
number_ends word i number past small before =
    let done : drop i word ≡ [] = drop_all i word past in
    let size : min number greatest ≡ number = omega arith in
    sym (before ∙ ap (λ (l : List ℕ). number_on number l) done ∙ ap (λ (n : ℕ). Ok n) size)

pub digit_fits : (number octet next : ℕ) → Ok next ≡ with_digit number octet → next ≤ greatest
digit_fits number octet next e = by (is_ascii_digit octet) e where
  by : (b : Bool) → Ok next ≡ cond b (Ok (min (min (number * 10) greatest + (octet - 48)) greatest)) (Err BadLine) → next ≤ greatest
  by true e = let same : next ≡ min (min (number * 10) greatest + (octet - 48)) greatest = cc in omega arith
  by false e = absurd (cc)
