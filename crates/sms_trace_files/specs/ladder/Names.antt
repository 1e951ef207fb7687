-- The names of the lanes of a ladder, each at the place of its lane. A number of twenty digits is shown whole.
use Rattle.std.specs.Prelude.{ℕ, ◌+◌, ◌-◌, max, List, [], ◌∷◌, ◌++◌, length, take, replicate, Option, None, Some}
use Rattle.sms_trace_files.specs.picture.Columns.{column_in}
use Rattle.sms_trace_files.specs.declared.picture.drawing.Lane.{Lane}

-- a name, or the first forty octets of a longer one
abbrev pub shown_name : List ℕ → List ℕ
shown_name name = take 40 name

-- how far lanes are apart, from so many places on: so many that a space is behind each name
abbrev pub apart_for : ℕ → List Lane → ℕ
apart_for apart [] = apart
apart_for apart (lane ∷ lanes) = apart_for (max apart (length (shown_name lane.name) + 1)) lanes

-- twenty places at least
abbrev pub apart : List Lane → ℕ
apart lanes = apart_for 20 lanes

-- a name that is shown, so many spaces before it
abbrev pub name_text : ℕ → List ℕ → Option ℕ → List ℕ
name_text gap name None = []
name_text gap name (Some column) = replicate gap 32 ++ shown_name name

-- how many spaces are before the next name
abbrev pub gap_behind : ℕ → ℕ → List ℕ → Option ℕ → ℕ
gap_behind apart gap name None = gap
gap_behind apart gap name (Some column) = apart - length (shown_name name)

abbrev pub names_text : List (Option ℕ) → ℕ → ℕ → List Lane → List ℕ
names_text table apart gap [] = []
names_text table apart gap (lane ∷ lanes) =
    name_text gap lane.name (column_in table lane.place)
    ++ names_text table apart (gap_behind apart gap lane.name (column_in table lane.place)) lanes
