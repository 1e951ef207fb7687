-- What a reader makes of a text between quotation marks (RFC 8259, 7): an octet is itself, but a backslash precedes a quotation mark or a backslash,
-- and a quotation mark alone ends the text.
use Rattle.std.specs.Prelude.{◌≢◌, ℕ, List, [], ◌∷◌}

pub data IsEscaped : ℕ → Type 0 where
  mark : IsEscaped 34
  backslash : IsEscaped 92

-- what is between the marks, and the text that is read
pub data IsUnquoted : List ℕ → List ℕ → Type 0 where
  none : IsUnquoted [] []
  itself : (octet : ℕ) → (written text : List ℕ) → octet ≢ 34 → octet ≢ 92 → IsUnquoted written text → IsUnquoted (octet ∷ written) (octet ∷ text)
  preceded : (octet : ℕ) → (written text : List ℕ) → IsEscaped octet → IsUnquoted written text → IsUnquoted (92 ∷ octet ∷ written) (octet ∷ text)
