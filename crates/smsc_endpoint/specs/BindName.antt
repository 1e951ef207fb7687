-- The name that a refused bind gives, as a line of the log has it.
use Rattle.std.specs.Prelude.{ℕ, List, Bool, not, ◌==◌, ◌&&◌, map, take, nat_le, if◌then◌else◌}

-- A visible ASCII character that is neither a quotation mark nor an equals sign.
abbrev pub is_plain : ℕ → Bool
is_plain octet = ((nat_le 0x21 octet && nat_le octet 0x7E) && not (octet == 0x22)) && not (octet == 0x3D)

-- a question mark is in place of each other octet
abbrev pub shown : ℕ → ℕ
shown octet = if is_plain octet then octet else 63

-- the first twenty octets
abbrev pub shown_name : List ℕ → List ℕ
shown_name octets = map shown (take 20 octets)
