-- The numbers of handsets, and their own addresses.
use Rattle.std.proofs.Common.{◌≡◌, ℕ, ◌<◌, ◌≤◌, true, List, [], ◌∷◌, length, refl, arith}
use Rattle.std.specs.List.{list_all}
use Rattle.std.proofs.lemmas.Bool.{and_parts}
use Rattle.std.proofs.lemmas.Bool.Decides.{nat_tests}
use Rattle.sms_base.specs.Address.{IsAddress}
use Rattle.sms_base.specs.HandsetNumber.{is_decimal, own_address}
use Rattle.sms_base.specs.Msisdn.{AllDigits, IsMsisdn}
use Rattle.sms_base.specs.SemiOctet.{is_digit}

pub is_number : (digits : List ℕ) → IsAddress (own_address digits) → IsMsisdn digits
is_number digits h = let number = h.digits.number refl in record { some = h.digits.some; few = number.few; each = number.digits }

pub own_is_address : (digits : List ℕ) → IsMsisdn digits → IsAddress (own_address digits)
own_is_address digits h = record {
  npi = omega arith;
  digits = record { some = h.some; number = λ e. record { few = h.few; digits = h.each }; name = λ e. absurd cc };
}

-- ---- 0 to 9 are digits

decimal_digit : (c : ℕ) → is_decimal c ≡ true → is_digit c ≡ true
decimal_digit c h = grind (arith, nat_tests)

decimal_digits : (digits : List ℕ) → list_all is_decimal digits ≡ true → AllDigits digits
decimal_digits [] e = tt
decimal_digits (c ∷ cs) e = let p = and_parts (is_decimal c) (list_all is_decimal cs) e in (decimal_digit c p.0, decimal_digits cs p.1)

pub decimal_number : (digits : List ℕ) → 0 < length digits → length digits ≤ 20 → list_all is_decimal digits ≡ true → IsMsisdn digits
decimal_number digits some few e = record { some = some; few = few; each = decimal_digits digits e }
