-- Text in markup: character data of a page (HTML 13.1.4 and 13.5), and character data and values of attributes in a picture (XML 1.0 2.4, 4.6).
use Rattle.std.specs.Prelude.{ℕ, ◌==◌, nat_lt, ◌||◌, List, [], ◌∷◌, ◌++◌, codes, if◌then◌else◌}

-- What is written of an octet of a text: `?` replaces what is no printable ASCII.
unfoldable pub escaped_octet : ℕ → List ℕ
escaped_octet octet =
    if octet == 38 then codes "&amp;"
    else (if octet == 60 then codes "&lt;"
    else (if octet == 62 then codes "&gt;"
    else (if octet == 34 then codes "&quot;" else (if nat_lt octet 32 || nat_lt 126 octet then codes "?" else octet ∷ []))))

abbrev pub escaped : List ℕ → List ℕ
escaped [] = []
escaped (octet ∷ text) = escaped_octet octet ++ escaped text
