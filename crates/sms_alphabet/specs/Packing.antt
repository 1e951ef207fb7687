-- Packing of septets into octets, by the value of a number in two bases.
use Rattle.std.specs.Prelude.{◌≡◌, ℕ, zero, suc, ◌+◌, ◌*◌, ◌/◌, ◌%◌, ◌^◌, ◌<◌, List, [], ◌∷◌, length, All, Result, Ok, Err, nat_lt, ◌==◌, if◌then◌else◌, ◌||◌}
use Rattle.std.specs.Prelude.{not}
use Rattle.sms_alphabet.specs.declared.unpacking.UnpackError.{UnpackError}
use Rattle.sms_alphabet.specs.declared.unpacking.UnpackError.TheVariants.{TooShort, SpareBits, NoMemory}

-- the number whose digits in the base these are, the least digit first
abbrev pub value_in : ℕ → List ℕ → ℕ
value_in base [] = 0
value_in base (d ∷ ds) = d + base * value_in base ds

abbrev pub and_then : Result (Unit {0}) UnpackError → List ℕ → Result (List ℕ) UnpackError
and_then (Ok done) septets = Ok septets
and_then (Err e) septets = Err e

-- how many octets n septets take behind that many fill bits
abbrev pub packed_len : ℕ → ℕ → ℕ
packed_len fill n = (fill + 7 * n + 7) / 8

abbrev pub AreSeptets : List ℕ → Type 0
AreSeptets septets = All (λ s. s < 128) septets

-- the octets are the septets packed, as few octets as hold them. Their value in base 256 is the sum of each septet
-- times 2 to its place
pub record IsPacking (septets : List ℕ) (fill : ℕ) (octets : List ℕ) : Type 0 where
  pub length_is : length octets ≡ packed_len fill (length septets)
  pub value_is : value_in 256 octets ≡ 2 ^ fill * value_in 128 septets

-- the n lowest digits of a number in the base, the least first
abbrev pub digits_in : ℕ → ℕ → ℕ → List ℕ
digits_in base zero v = []
digits_in base (suc n) v = v % base ∷ digits_in base n (v / base)

-- the one list of octets that they are packed into
abbrev pub packed : ℕ → List ℕ → List ℕ
packed fill septets = digits_in 256 (packed_len fill (length septets)) (2 ^ fill * value_in 128 septets)

-- What the test of the bits outside the septets answers. From the left: fill bits that are not zero, octets
-- that do not reach, and what follows the last septet.
abbrev pub tested : List ℕ → ℕ → ℕ → Result (Unit {0}) UnpackError
tested octets fill count =
    if not (value_in 256 octets % 2 ^ fill == 0) then Err SpareBits
    else (if nat_lt (length octets) (packed_len fill count) then Err TooShort
    else (if nat_lt (packed_len fill count) (length octets) || not (nat_lt (value_in 256 octets / 2 ^ fill) (128 ^ count)) then Err SpareBits
    else Ok tt))

-- the septets of octets that passed the test
abbrev pub septets_in : List ℕ → ℕ → ℕ → List ℕ
septets_in octets fill count = digits_in 128 count (value_in 256 octets / 2 ^ fill)

-- what unpacking answers where there is memory
abbrev pub unpacked : List ℕ → ℕ → ℕ → Result (List ℕ) UnpackError
unpacked octets fill count = and_then (tested octets fill count) (septets_in octets fill count)

-- The answer is the wanted one. Want of memory is reported only where there are septets.
abbrev pub AnswersUnpacking : Result (List ℕ) UnpackError → Result (List ℕ) UnpackError → Type 0
AnswersUnpacking (Ok septets) wanted = wanted ≡ Ok septets
AnswersUnpacking (Err NoMemory) wanted = (septets : List ℕ) × (wanted ≡ Ok septets)
AnswersUnpacking (Err TooShort) wanted = wanted ≡ Err TooShort
AnswersUnpacking (Err SpareBits) wanted = wanted ≡ Err SpareBits
