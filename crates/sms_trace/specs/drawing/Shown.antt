-- Octets that are no text, shown: `\` and two hexadecimal digits for what is no printable ASCII, and for `\` itself.
use Rattle.std.specs.Prelude.{ℕ, ◌+◌, ◌/◌, ◌%◌, ◌==◌, ◌||◌, nat_lt, List, [], ◌∷◌, ◌++◌, if◌then◌else◌}

abbrev pub hex_digit : ℕ → ℕ
hex_digit digit = if nat_lt digit 10 then 48 + digit else 55 + digit

unfoldable pub shown_octet : ℕ → List ℕ
shown_octet octet =
    if octet == 92 || (nat_lt octet 32 || nat_lt 126 octet) then 92 ∷ 120 ∷ hex_digit (octet / 16) ∷ hex_digit (octet % 16) ∷ [] else octet ∷ []

abbrev pub shown_octets : List ℕ → List ℕ
shown_octets [] = []
shown_octets (octet ∷ octets) = shown_octet octet ++ shown_octets octets
