-- What the rows of a picture draw. A frame that arrives is one arrow, from the row in which it was sent to the row in which it
-- arrives. A frame that never arrives is half a broken arrow, with a cross before its note. What is sent or handed over again
-- has a class of its own.
use Rattle.std.specs.Prelude.{ℕ, List, [], ◌∷◌, ◌++◌, Bool, Option, codes, if◌then◌else◌}
use Rattle.sms_trace_files.specs.picture.Columns.{placed}
use Rattle.sms_trace_files.specs.picture.Elements.{line_element, sign_element}
use Rattle.sms_trace_files.specs.picture.Notes.{note_element}
use Rattle.sms_trace_files.specs.picture.Places.{cross_at, halfway, note_at, on_lane}
use Rattle.sms_trace_files.specs.declared.picture.rows.Passage.{Passage}
use Rattle.sms_trace_files.specs.declared.picture.rows.Departure.{Departure}
use Rattle.sms_trace_files.specs.declared.picture.rows.Sign.{Sign}
use Rattle.sms_trace_files.specs.declared.picture.rows.Sign.TheVariants.{Tick, Act, Restart}
use Rattle.sms_trace_files.specs.declared.picture.rows.Shape.{Shape}
use Rattle.sms_trace_files.specs.declared.picture.rows.Shape.TheVariants as shape
use Rattle.sms_trace_files.specs.declared.picture.rows.PictureRow.{PictureRow}

abbrev pub arrow_class : Bool → List ℕ
arrow_class is_again = if is_again then codes "again" else codes "arrow"

abbrev pub lost_class : Bool → List ℕ
lost_class is_again = if is_again then codes "again lost" else codes "arrow lost"

abbrev pub sign_word : Sign → List ℕ
sign_word Tick = codes "tick"
sign_word Act = codes "act"
sign_word Restart = codes "restart"

-- from the lane and the row in which it was sent to those in which it arrives
abbrev pub passage_drawn : ℕ → Passage → List ℕ
passage_drawn row p = line_element (arrow_class p.is_again) (on_lane p.from p.begun) (on_lane p.to row)

-- half a broken arrow, and its cross
unfoldable pub lost_drawn : ℕ → ℕ → Departure → List ℕ
lost_drawn lanes row d =
    line_element (lost_class d.is_again) (on_lane d.from row) (halfway d.from d.to row) ++ sign_element (codes "cross") (cross_at lanes row)

-- a dot where it arrives in a later row
abbrev pub departure_drawn : ℕ → ℕ → Departure → List ℕ
departure_drawn lanes row d = if d.arrives then sign_element (codes "dot") (on_lane d.from row) else lost_drawn lanes row d

abbrev pub shape_drawn : ℕ → ℕ → Shape → List ℕ
shape_drawn lanes row (shape.Passage p) = passage_drawn row p
shape_drawn lanes row (shape.Departure d) = departure_drawn lanes row d
shape_drawn lanes row (shape.Sign lane sign) = sign_element (sign_word sign) (on_lane lane row)

-- a row of a picture of that many lanes: its shape in their columns, and its note beside them
unfoldable pub row_drawn : List (Option ℕ) → ℕ → PictureRow → List ℕ
row_drawn table lanes row = shape_drawn lanes row.place (placed table row.shape) ++ note_element (note_at lanes row.place) row.note

abbrev pub rows_drawn : List (Option ℕ) → ℕ → List PictureRow → List ℕ
rows_drawn table lanes [] = []
rows_drawn table lanes (row ∷ rows) = row_drawn table lanes row ++ rows_drawn table lanes rows
