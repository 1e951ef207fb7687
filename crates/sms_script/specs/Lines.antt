-- A text cut into lines, and a line cut into words. A text is the list of its octets; LF is 10, CR 13 and a space 32.
use Rattle.std.specs.Prelude.{◌≡◌, ℕ, ◌==◌, ◌&&◌, Bool, true, false, not, List, [], ◌∷◌, ◌++◌, Option, Some, None, if◌then◌else◌}
use Rattle.std.specs.List.{list_any}

-- an octet before the first piece
abbrev pub onto : ℕ → List (List ℕ) → List (List ℕ)
onto octet [] = (octet ∷ []) ∷ []
onto octet (piece ∷ pieces) = (octet ∷ piece) ∷ pieces

-- LF ends a line; the last line may lack it.
unfoldable pub lines_of : List ℕ → List (List ℕ)
lines_of [] = []
lines_of (octet ∷ text) = if octet == 10 then [] ∷ lines_of text else onto octet (lines_of text)

-- A space parts two words.
unfoldable pub words_of : List ℕ → List (List ℕ)
words_of [] = [] ∷ []
words_of (octet ∷ line) = if octet == 32 then [] ∷ words_of line else onto octet (words_of line)

-- words with a space between each two
abbrev pub spaced : List (List ℕ) → List ℕ
spaced [] = []
spaced (word ∷ []) = word
spaced (word ∷ other ∷ words) = word ++ (32 ∷ spaced (other ∷ words))

-- lines, each with its LF
abbrev pub ended : List (List ℕ) → List ℕ
ended [] = []
ended (line ∷ lines) = line ++ (10 ∷ ended lines)

-- the mark is in none of them
abbrev pub Without : ℕ → List ℕ → Type 0
Without mark [] = Unit {0}
Without mark (octet ∷ octets) = ((octet == mark) ≡ false) × Without mark octets

abbrev pub AllWithout : ℕ → List (List ℕ) → Type 0
AllWithout mark [] = Unit {0}
AllWithout mark (piece ∷ pieces) = Without mark piece × AllWithout mark pieces

abbrev pub is_empty : List ℕ → Bool
is_empty [] = true
is_empty (octet ∷ octets) = false

-- a word is not empty and has no CR
abbrev pub is_word : List ℕ → Bool
is_word word = not (is_empty word) && not (list_any (λ octet. octet == 13) word)

-- ---- a piece, and what is behind it

-- the octets before the first mark
abbrev pub front : ℕ → List ℕ → List ℕ
front mark [] = []
front mark (octet ∷ octets) = if octet == mark then [] else octet ∷ front mark octets

-- the octets behind the first mark, if there is one
abbrev pub behind : ℕ → List ℕ → Option (List ℕ)
behind mark [] = None
behind mark (octet ∷ octets) = if octet == mark then Some octets else behind mark octets

abbrev pub lines_left : Option (List ℕ) → List (List ℕ)
lines_left None = []
lines_left (Some text) = lines_of text

abbrev pub words_behind : Option (List ℕ) → List (List ℕ)
words_behind None = []
words_behind (Some line) = words_of line
