-- Fronts of a text that are enough to judge it: one of their lines passes a limit.
use Rattle.std.specs.Prelude.{◌≡◌, ◌⊎◌, ℕ, ◌+◌, ◌||◌, List, [], ◌∷◌, ◌++◌, length, nat_lt, Bool, true, false}
use Rattle.sms_script.specs.Lines.{lines_of}
use Rattle.sms_script.specs.ScriptReading.{longest_line}
use Rattle.sms_script.specs.WholeScript.{most_lines}

-- the line of that number is one too many, or too long
abbrev pub passes_limit : ℕ → List ℕ → Bool
passes_limit number line = nat_lt most_lines number || nat_lt longest_line (length line)

-- one of the lines does, of which the first has that number
abbrev pub passes_from : ℕ → List (List ℕ) → Bool
passes_from number [] = false
passes_from number (line ∷ lines) = passes_limit number line || passes_from (number + 1) lines

unfoldable pub passes_limits : List ℕ → Bool
passes_limits text = passes_from 1 (lines_of text)

-- the whole text, or a front of it in which a line passes a limit
abbrev pub IsEnoughOf : List ℕ → List ℕ → Type 0
IsEnoughOf text front = (rest : List ℕ) × (text ≡ front ++ rest) × ((rest ≡ []) ⊎ (passes_limits front ≡ true))
