-- The number of a handset: 1 to 20 digits, the most that an address has room for (3GPP TS 23.040 9.1.2.5).
use Rattle.std.specs.Prelude.{◌≡◌, ℕ, ◌<◌, ◌≤◌, List, length, true}
use Rattle.std.specs.List.{AllByRecursion}
use Rattle.std.proofs.Common.{ap}
use Rattle.sms_base.specs.DigitsKey.{digits_key, spelled}
use Rattle.sms_base.specs.SemiOctet.{is_digit}

-- each character is a digit
abbrev pub AllDigits : List ℕ → Type 0
AllDigits digits = AllByRecursion (λ c. is_digit c ≡ true) digits

pub record IsMsisdn (digits : List ℕ) : Type 0 where
  pub some : 0 < length digits
  pub few : length digits ≤ 20
  pub each : AllDigits digits

-- what is made of a key is made of the digits that it spells
pub given_back : {X : Type 0} (make : ℕ → X) (key : ℕ) → digits_key (spelled key) ≡ key → make (digits_key (spelled key)) ≡ make key
given_back make key is = ap make is
