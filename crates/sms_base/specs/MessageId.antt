-- The identity of a message: a number from 1 to 9999999999, and its text of ten decimal digits.
use Rattle.std.specs.Prelude.{◌≡◌, ℕ, ◌+◌, ◌/◌, ◌%◌, ◌<◌, ◌≤◌, List, [], ◌∷◌, length}
use Rattle.std.specs.Str.Parse.{AllDigits, digits_value}

pub record IsMessageId (n : ℕ) : Type 0 where
  pub some : 0 < n
  pub short : n ≤ 9999999999

-- ten decimal digits that write the number
pub record IsIdText (text : List ℕ) (n : ℕ) : Type 0 where
  pub ten : length text ≡ 10
  pub digits : AllDigits 10 text
  pub value : digits_value 10 text ≡ n

-- the last decimal digit of a number
abbrev pub digit : ℕ → ℕ
digit n = 48 + n % 10

-- that text
abbrev pub id_text : ℕ → List ℕ
id_text n =
    digit (n / 1000000000) ∷ digit (n / 100000000) ∷ digit (n / 10000000) ∷ digit (n / 1000000) ∷ digit (n / 100000)
    ∷ digit (n / 10000) ∷ digit (n / 1000) ∷ digit (n / 100) ∷ digit (n / 10) ∷ digit n ∷ []
