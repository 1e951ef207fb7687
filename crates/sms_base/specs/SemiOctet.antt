-- The digits of a number and their semi-octets (3GPP TS 23.040 9.1.2.3).
use Rattle.std.specs.Prelude.{ℕ, ◌+◌, ◌-◌, Option, Some, None, Bool, nat_lt, nat_le, ◌&&◌, ◌==◌, if◌then◌else◌, is_some}

-- the semi-octet of a character: 0 to 9, then * # a b c
abbrev pub semi_octet_of : ℕ → Option ℕ
semi_octet_of c =
    if nat_le 48 c && nat_lt c 58 then Some (c - 48)
    else (if c == 42 then Some 10
    else (if c == 35 then Some 11
    else (if nat_le 97 c && nat_lt c 100 then Some (c - 85) else None)))

-- the character of a semi-octet below 15
abbrev pub digit_of : ℕ → ℕ
digit_of s =
    if nat_lt s 10 then s + 48
    else (if s == 10 then 42
    else (if s == 11 then 35 else s + 85))

abbrev pub is_digit : ℕ → Bool
is_digit c = is_some (semi_octet_of c)
