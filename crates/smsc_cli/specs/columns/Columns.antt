-- Texts on one line, and cells of a table. A text is the list of its octets, a name that of its characters.
use Rattle.std.specs.Prelude.{ℕ, ◌-◌, List, [], ◌∷◌, ◌++◌, length, replicate, if◌then◌else◌}
use Rattle.std.specs.Char.{encode_utf8, is_control}

-- a character on a line, in UTF-8: a space replaces a control character
unfoldable pub character_on_line : ℕ → List ℕ
character_on_line character = if is_control character then 32 ∷ [] else encode_utf8 character

abbrev pub on_line : List ℕ → List ℕ
on_line [] = []
on_line (character ∷ characters) = character_on_line character ++ on_line characters

-- a word of ASCII, filled up to the width of its column
abbrev pub cell : ℕ → List ℕ → List ℕ
cell width word = word ++ replicate (width - length word) 32

-- characters, filled up likewise
abbrev pub name_cell : ℕ → List ℕ → List ℕ
name_cell width characters = on_line characters ++ replicate (width - length characters) 32

-- the lines of a list
abbrev pub lines : {X : Type 0} → (X → List ℕ) → List X → List ℕ
lines line [] = []
lines line (row ∷ rows) = line row ++ lines line rows
