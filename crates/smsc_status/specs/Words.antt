-- A word of a line in logfmt: as it is, or between quotation marks where a reader would take it for something else.
use Rattle.std.specs.Prelude.{ℕ, List, [], ◌∷◌, Bool, true, ◌&&◌, ◌==◌, not, nat_lt, length, if◌then◌else◌}
use Rattle.smsc_status.specs.Quoting.{string}

-- visible ASCII but for a quotation mark, an equals sign and a backslash
abbrev pub is_bare_octet : ℕ → Bool
is_bare_octet octet = nat_lt 32 octet && (nat_lt octet 127 && (not (octet == 34) && (not (octet == 61) && not (octet == 92))))

abbrev pub are_bare : List ℕ → Bool
are_bare [] = true
are_bare (octet ∷ text) = is_bare_octet octet && are_bare text

unfoldable pub word_text : List ℕ → List ℕ
word_text text = if not (length text == 0) && are_bare text then text else string text
