-- What a reader makes of character data: of a page (HTML 13.2.5.1 and 13.5), or of a picture (XML 1.0, 2.4 and 4.6). An octet is itself, but `&`
-- begins a reference to a character, which `;` ends, and `<` is no character data.
use Rattle.std.specs.Prelude.{◌≢◌, ℕ, List, [], ◌∷◌, ◌++◌, ◌||◌, nat_lt, codes, if◌then◌else◌}

-- the references by name, and the characters that they are
pub data IsReference : List ℕ → ℕ → Type 0 where
  ampersand : IsReference (codes "amp") 38
  less : IsReference (codes "lt") 60
  greater : IsReference (codes "gt") 62
  quotation : IsReference (codes "quot") 34

-- the character data, and the text that is read
pub data IsRead : List ℕ → List ℕ → Type 0 where
  nothing : IsRead [] []
  plain : (octet : ℕ) → (written text : List ℕ) → octet ≢ 38 → octet ≢ 60 → IsRead written text → IsRead (octet ∷ written) (octet ∷ text)
  reference : (name : List ℕ) → (character : ℕ) → (written text : List ℕ) → IsReference name character → IsRead written text →
      IsRead (38 ∷ (name ++ (59 ∷ written))) (character ∷ text)

-- what a reader gets of an octet: `?` for what is no printable ASCII
abbrev pub legible : ℕ → ℕ
legible octet = if nat_lt octet 32 || nat_lt 126 octet then 63 else octet
