-- The numbers of handsets.
use Rattle.std.proofs.Common.{◌≡◌, ℕ, zero, suc, ◌<◌, ◌≤◌, arith, List, [], ◌∷◌, length, true, false, refl, ap}
use Rattle.std.specs.Prelude.{nat_eq, not}
use Rattle.std.specs.List.{AllByRecursion, list_all}
use Rattle.std.proofs.lemmas.Bool.{and_from, and_parts, ne_eqb}
use Rattle.sms_base.specs.Msisdn.{AllDigits, IsMsisdn}
use Rattle.sms_base.specs.SemiOctet.{is_digit}
use Rattle.smsc_service.specs.Numbers.{is_number}
use Rattle.sms_centre_rows.specs.waiting.SoundAllocations.{IsNumber}

pub all_digits : (text : List ℕ) → list_all is_digit text ≡ true → AllByRecursion (λ c. is_digit c ≡ true) text
all_digits [] e = tt
all_digits (c ∷ cs) e = let p = and_parts (is_digit c) (list_all is_digit cs) e in (p.0, all_digits cs p.1)

pub some_there : (n : ℕ) → nat_eq n 0 ≡ false → 0 < n
some_there zero e = absurd cc
some_there (suc n) e = omega arith

pub number_is : (digits : List ℕ) → 0 < length digits → length digits ≤ 20 → list_all is_digit digits ≡ true → IsNumber digits
number_is digits some few all = record {
  npi = (let l : 1 < 16 = omega arith in l);
  digits = record {
    some = some;
    number = λ no. record { few = few; digits = all_digits digits all };
    name = λ yes. absurd cc;
  };
}

all_pass : (text : List ℕ) → AllDigits text → list_all is_digit text ≡ true
all_pass [] h = refl
all_pass (c ∷ cs) h = and_from (is_digit c) (list_all is_digit cs) h.0 (all_pass cs h.1)

not_zero : (n : ℕ) → 0 < n → not (nat_eq n 0) ≡ true
not_zero n h = ap not (ne_eqb n 0 (λ (z : n ≡ 0). omega (arith, h, z)))

pub number_passes : (digits : List ℕ) → IsMsisdn digits → is_number digits ≡ true
number_passes digits is = and_from (not (nat_eq (length digits) 0)) (list_all is_digit digits) (not_zero (length digits) is.some) (all_pass digits is.each)
