-- The lines of a ladder: lanes and what is between them, and the note of the row behind.
use Rattle.std.specs.Prelude.{ℕ, zero, suc, ◌+◌, ◌-◌, ◌*◌, ◌==◌, List, [], ◌∷◌, ◌++◌, true, false, Option, codes, if◌then◌else◌}
use Rattle.sms_trace_files.specs.ladder.Arrows.{arrow_at, lost_at}
use Rattle.sms_trace_files.specs.picture.Columns.{placed}
use Rattle.sms_trace_files.specs.declared.picture.rows.Departure.{Departure}
use Rattle.sms_trace_files.specs.declared.picture.rows.Sign.{Sign}
use Rattle.sms_trace_files.specs.declared.picture.rows.Sign.TheVariants.{Tick, Act, Restart}
use Rattle.sms_trace_files.specs.declared.picture.rows.Shape.{Shape}
use Rattle.sms_trace_files.specs.declared.picture.rows.Shape.TheVariants as shape
use Rattle.sms_trace_files.specs.declared.picture.rows.PictureRow.{PictureRow}

-- o, * and X
abbrev pub sign_letter : Sign → ℕ
sign_letter Tick = 111
sign_letter Act = 42
sign_letter Restart = 88

-- what a row has in a lane: its sign, or the lane itself
abbrev pub lane_mark : Shape → ℕ → ℕ
lane_mark (shape.Passage p) lane = 124
lane_mark (shape.Departure d) lane = 124
lane_mark (shape.Sign at sign) lane = if at == lane then sign_letter sign else 124

-- what is sent is a broken arrow, which breaks off where it never arrives
abbrev pub departure_at : ℕ → Departure → ℕ → ℕ
departure_at apart d place = if d.arrives then arrow_at false apart d.from d.to place else lost_at apart d.from d.to place

-- what a row has at a place between lanes
abbrev pub mark_between : ℕ → Shape → ℕ → ℕ
mark_between apart (shape.Passage p) place = arrow_at true apart p.from p.to place
mark_between apart (shape.Departure d) place = departure_at apart d place
mark_between apart (shape.Sign at sign) place = 32

-- so many places behind a lane
abbrev pub gap_marks : ℕ → Shape → ℕ → ℕ → List ℕ
gap_marks apart shown lane zero = []
gap_marks apart shown lane (suc place) = gap_marks apart shown lane place ++ mark_between apart shown (apart * lane + place + 1) ∷ []

-- the first lane, and so many more
abbrev pub lane_marks : ℕ → Shape → ℕ → List ℕ
lane_marks apart shown zero = lane_mark shown 0 ∷ []
lane_marks apart shown (suc lane) =
    lane_marks apart shown lane ++ (gap_marks apart shown lane (apart - 1) ++ lane_mark shown (lane + 1) ∷ [])

-- the note, two spaces before it
abbrev pub line_end : List ℕ → List ℕ
line_end [] = codes "\n"
line_end (octet ∷ note) = codes "  " ++ ((octet ∷ note) ++ codes "\n")

-- the line of a row in a ladder of that many lanes
unfoldable pub line_drawn : List (Option ℕ) → ℕ → ℕ → PictureRow → List ℕ
line_drawn table apart lanes row = lane_marks apart (placed table row.shape) (lanes - 1) ++ line_end row.note

abbrev pub lines_drawn : List (Option ℕ) → ℕ → ℕ → List PictureRow → List ℕ
lines_drawn table apart lanes [] = []
lines_drawn table apart lanes (row ∷ rows) = line_drawn table apart lanes row ++ lines_drawn table apart lanes rows
