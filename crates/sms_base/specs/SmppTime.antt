-- The times of SMPP (SMPP v3.4 7.1.1): `YYMMDDhhmmsstnnp`, sixteen characters.
use Rattle.std.specs.Prelude.{◌≡◌, ◌⊎◌, slice_index, min, ◌-ℤ◌, ℕ, ◌+◌, ◌-◌, ◌*◌, ◌/◌, ◌%◌, ◌<◌, ◌≤◌, Bool, true, false, ◌&&◌, ◌==◌, nat_le, if◌then◌else◌}
use Rattle.std.specs.Prelude.{List, [], ◌∷◌, ◌++◌, length, Option, Some, None, ℤ, pos}
use Rattle.sms_base.specs.declared.smpp_time.SpelledTime.{SpelledTime}
use Rattle.sms_base.specs.TimeStamp.{◌>>=◌, IsMoment, IsClock, zone_seconds, clock_in, moment_in}

-- each number has two digits
pub record AreNumbers (n : SpelledTime) : Type 0 where
  pub year : n.year < 100
  pub month : n.month < 100
  pub day : n.day < 100
  pub hour : n.hour < 100
  pub minute : n.minute < 100
  pub second : n.second < 100
  pub quarters : n.quarters < 100

-- the characters of two digits, the tens first
abbrev pub two_digits : ℕ → List ℕ
two_digits n = (48 + n / 10) ∷ (48 + n % 10) ∷ []

-- the digits of the numbers, of the tenth of a second, and the last character
abbrev pub time_text : SpelledTime → ℕ → ℕ → List ℕ
time_text n tenth last =
    two_digits n.year ++ (two_digits n.month
    ++ (two_digits n.day ++ (two_digits n.hour
    ++ (two_digits n.minute ++ (two_digits n.second ++ ((48 + tenth) ∷ (two_digits n.quarters ++ (last ∷ []))))))))

-- '-' or '+'
abbrev pub sign_of : Bool → ℕ
sign_of is_behind = if is_behind then 45 else 43

-- The moment at which a clock shows the numbers, which is up to 48 quarter hours ahead of UTC or behind it.
pub record IsAbsolute (octets : List ℕ) (moment : ℕ) : Type 0 where
  pub n : SpelledTime
  pub tenth : ℕ
  pub is_behind : Bool
  pub local : ℤ
  pub numbers : AreNumbers n
  pub digit : tenth < 10
  pub zone : n.quarters ≤ 48
  pub clock : IsClock n.year n.month n.day n.hour n.minute n.second local
  pub spelled : octets ≡ time_text n tenth (sign_of is_behind)
  pub instant : pos moment ≡ local -ℤ zone_seconds n.quarters is_behind
  pub in_range : IsMoment moment

-- the length that the numbers are, a year as 365 days and a month as 30
abbrev pub length_of : SpelledTime → ℕ
length_of n = 86400 * (365 * n.year + 30 * n.month + n.day) + 3600 * n.hour + 60 * n.minute + n.second

-- so much later, but no later than the last moment
abbrev pub after_length : SpelledTime → ℕ → ℕ
after_length n now = min (now + length_of n) 4102444799

-- The moment that is so much later than another.
pub record IsRelative (octets : List ℕ) (now moment : ℕ) : Type 0 where
  pub n : SpelledTime
  pub tenth : ℕ
  pub numbers : AreNumbers n
  pub digit : tenth < 10
  pub spelled : octets ≡ time_text n tenth 82
  pub instant : moment ≡ after_length n now

abbrev pub IsSmppTime : List ℕ → ℕ → ℕ → Type 0
IsSmppTime octets now moment = IsAbsolute octets moment ⊎ IsRelative octets now moment

-- ---- reading

abbrev pub decimal_in : ℕ → Option ℕ
decimal_in octet = if nat_le 48 octet && nat_le octet 57 then Some (octet - 48) else None

unfoldable pub pair_at : ℕ → ℕ → Option ℕ
pair_at tens units = do
  high ← decimal_in tens
  low ← decimal_in units
  Some (10 * high + low)

unfoldable pub numbers_in : List ℕ → Option SpelledTime
numbers_in octets = do
  year ← pair_at (slice_index octets 0) (slice_index octets 1)
  month ← pair_at (slice_index octets 2) (slice_index octets 3)
  day ← pair_at (slice_index octets 4) (slice_index octets 5)
  hour ← pair_at (slice_index octets 6) (slice_index octets 7)
  minute ← pair_at (slice_index octets 8) (slice_index octets 9)
  second ← pair_at (slice_index octets 10) (slice_index octets 11)
  tenth ← decimal_in (slice_index octets 12)
  quarters ← pair_at (slice_index octets 13) (slice_index octets 14)
  Some (record { year = year; month = month; day = day; hour = hour; minute = minute; second = second; quarters = quarters })

unfoldable pub local_in : SpelledTime → Bool → Option ℕ
local_in n is_behind =
    if nat_le n.quarters 48 then (do
      local ← clock_in n.year n.month n.day n.hour n.minute n.second
      moment_in (local -ℤ zone_seconds n.quarters is_behind))
    else None

unfoldable pub time_at : SpelledTime → ℕ → ℕ → Option ℕ
time_at n last now =
    if last == 43 then local_in n false
    else (if last == 45 then local_in n true
    else (if last == 82 then Some (after_length n now)
    else None))

unfoldable pub smpp_time_in : List ℕ → ℕ → Option ℕ
smpp_time_in octets now =
    if length octets == 16 then (do
      numbers ← numbers_in octets
      time_at numbers (slice_index octets 15) now)
    else None
