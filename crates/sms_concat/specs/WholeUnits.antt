-- The whole units of a content, which no cut may divide.
use Rattle.std.specs.Prelude.{ℕ, List, [], ◌∷◌, Bool, ◌&&◌, nat_le, nat_lt, ◌==◌, if◌then◌else◌}
use Rattle.sms_alphabet.specs.declared.scheme.Coding.{Coding}
use Rattle.sms_alphabet.specs.declared.scheme.Coding.TheVariants.{Septets, Octets, Ucs2, Compressed}

-- 3GPP TS 23.038 6.2.1: ESC, 27, and the septet behind it are one unit. Pairs are taken from the left,
-- so ESC ESC is one; a last ESC is one alone.
abbrev pub septet_units : List ℕ → List (List ℕ)
septet_units [] = []
septet_units (septet ∷ []) = (septet ∷ []) ∷ []
septet_units (septet ∷ next ∷ rest) =
    if septet == 27 then (septet ∷ next ∷ []) ∷ septet_units rest
    else (septet ∷ []) ∷ septet_units (next ∷ rest)

-- each octet
abbrev pub octet_units : List ℕ → List (List ℕ)
octet_units [] = []
octet_units (octet ∷ rest) = (octet ∷ []) ∷ octet_units rest

-- the high octet of a high surrogate, D8 to DB, and of a low one, DC to DF
abbrev pub is_high_surrogate : ℕ → Bool
is_high_surrogate octet = nat_le 216 octet && nat_lt octet 220

abbrev pub is_low_surrogate : ℕ → Bool
is_low_surrogate octet = nat_le 220 octet && nat_lt octet 224

-- two octets, or the four of a high and a low surrogate
abbrev pub ucs2_units : List ℕ → List (List ℕ)
ucs2_units [] = []
ucs2_units (high ∷ []) = (high ∷ []) ∷ []
ucs2_units (high ∷ low ∷ []) = (high ∷ low ∷ []) ∷ []
ucs2_units (high ∷ low ∷ half ∷ []) = (high ∷ low ∷ []) ∷ (half ∷ []) ∷ []
ucs2_units (high ∷ low ∷ high_behind ∷ low_behind ∷ rest) =
    if is_high_surrogate high && is_low_surrogate high_behind then (high ∷ low ∷ high_behind ∷ low_behind ∷ []) ∷ ucs2_units rest
    else (high ∷ low ∷ []) ∷ ucs2_units (high_behind ∷ low_behind ∷ rest)

abbrev pub whole_units : Coding → List ℕ → List (List ℕ)
whole_units Septets units = septet_units units
whole_units Octets units = octet_units units
whole_units Ucs2 units = ucs2_units units
whole_units Compressed units = octet_units units
