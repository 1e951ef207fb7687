-- Text between quotation marks, as JSON has it (RFC 8259, 7) and the labels of a metric (Prometheus' text format).
use Rattle.std.specs.Prelude.{ℕ, ◌==◌, nat_lt, ◌||◌, List, [], ◌∷◌, ◌++◌, codes, if◌then◌else◌}

-- What is written of an octet of a text: `?` replaces what is no printable ASCII.
unfoldable pub quoted_octet : ℕ → List ℕ
quoted_octet octet =
    if octet == 34 then 92 ∷ 34 ∷ []
    else (if octet == 92 then 92 ∷ 92 ∷ [] else (if nat_lt octet 32 || nat_lt 126 octet then codes "?" else octet ∷ []))

abbrev pub quoted : List ℕ → List ℕ
quoted [] = []
quoted (octet ∷ text) = quoted_octet octet ++ quoted text

-- the text with its quotation marks
unfoldable pub string : List ℕ → List ℕ
string text = codes "\"" ++ (quoted text ++ codes "\"")
