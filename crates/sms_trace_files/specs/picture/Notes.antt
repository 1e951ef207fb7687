-- The notes of a picture. A longer note than 80 octets is cut behind them, and its length is said.
use Rattle.std.specs.Prelude.{ℕ, ◌+◌, List, ◌++◌, length, take, nat_lt, nat_le, codes, decimal, if◌then◌else◌}
use Rattle.sms_trace_files.specs.picture.Elements.{text_head}
use Rattle.sms_base.specs.Markup.{escaped}
use Rattle.sms_trace_files.specs.declared.picture.markup.Point.{Point}

unfoldable pub cut_note : List ℕ → List ℕ
cut_note note = escaped (take 80 note) ++ (codes " .. (" ++ (decimal (length note) ++ codes " octets)"))

abbrev pub shown_note : List ℕ → List ℕ
shown_note note = if nat_lt 80 (length note) then cut_note note else escaped note

-- a note at a place
unfoldable pub note_element : Point → List ℕ → List ℕ
note_element at note = text_head (codes "note") at ++ (shown_note note ++ codes "</text>\n")

-- how many octets a note so long takes at most: a length has 20 digits at most
abbrev pub most_shown : ℕ → ℕ
most_shown len = if nat_le len 80 then len else 80 + 5 + 20 + 8
