-- Reading the octets of UCS2 from left to right, a character at a time.
use Rattle.std.specs.Prelude.{ℕ, List, [], ◌∷◌, Result, Ok, Err, if◌then◌else◌}
use Rattle.std.specs.Char.Utf16.{is_high_surrogate, is_low_surrogate, surrogate_pair_char}
use Rattle.sms_base.specs.Reading.{◌>>=◌, only_if, octet_in}
use Rattle.sms_alphabet.specs.declared.ucs2.Ucs2Error.{Ucs2Error}
use Rattle.sms_alphabet.specs.declared.ucs2.Ucs2Error.TheVariants.{OddLength, LoneSurrogate}
use Rattle.sms_alphabet.specs.Ucs2.{unit_of}

-- a unit
unfoldable pub unit_in : List ℕ → Result (ℕ × List ℕ) Ucs2Error
unit_in octets = do
  (high, rest) ← octet_in OddLength octets
  (low, rest) ← octet_in OddLength rest
  Ok (unit_of high low, rest)

-- the unit behind a high surrogate
unfoldable pub partner_in : List ℕ → Result (ℕ × List ℕ) Ucs2Error
partner_in [] = Err LoneSurrogate
partner_in (octet ∷ rest) = unit_in (octet ∷ rest)

-- the character of a unit, and of the one behind it where the first is a high surrogate
unfoldable pub character_at : ℕ → List ℕ → Result (ℕ × List ℕ) Ucs2Error
character_at unit octets =
    if is_low_surrogate unit then Err LoneSurrogate
    else (if is_high_surrogate unit then (do
      (next, rest) ← partner_in octets
      passed ← only_if (is_low_surrogate next) LoneSurrogate
      Ok (surrogate_pair_char unit next, rest))
    else Ok (unit, octets))

unfoldable pub character_in : List ℕ → Result (ℕ × List ℕ) Ucs2Error
character_in octets = do
  (unit, rest) ← unit_in octets
  character_at unit rest
