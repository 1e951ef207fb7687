-- Where lanes are drawn. A lane that no row touches is left out, and the others keep their order.
use Rattle.std.specs.Prelude.{ℕ, zero, suc, ◌+◌, ◌==◌, ◌||◌, List, [], ◌∷◌, ◌++◌, Bool, false, Option, None, Some, unwrap_or, get_or, if◌then◌else◌}
use Rattle.sms_trace_files.specs.declared.picture.rows.Shape.{Shape}
use Rattle.sms_trace_files.specs.declared.picture.rows.Shape.TheVariants as shape
use Rattle.sms_trace_files.specs.declared.picture.rows.PictureRow.{PictureRow}

-- whether a shape begins in a lane, ends in it or is in it
abbrev pub touches : ℕ → Shape → Bool
touches lane (shape.Passage p) = p.from == lane || p.to == lane
touches lane (shape.Departure d) = d.from == lane || d.to == lane
touches lane (shape.Sign at sign) = at == lane

abbrev pub is_touched : List PictureRow → ℕ → Bool
is_touched [] lane = false
is_touched (row ∷ rows) lane = touches lane row.shape || is_touched rows lane

-- how many lanes are drawn left of a lane
abbrev pub drawn_before : List PictureRow → ℕ → ℕ
drawn_before rows zero = 0
drawn_before rows (suc lane) = if is_touched rows lane then drawn_before rows lane + 1 else drawn_before rows lane

-- the column of a lane; none where it is left out
abbrev pub column : List PictureRow → ℕ → Option ℕ
column rows lane = if is_touched rows lane then Some (drawn_before rows lane) else None

-- the columns of so many lanes
abbrev pub columns : List PictureRow → ℕ → List (Option ℕ)
columns rows zero = []
columns rows (suc lane) = columns rows lane ++ column rows lane ∷ []

-- ---- a list of columns, read

abbrev pub column_in : List (Option ℕ) → ℕ → Option ℕ
column_in table lane = get_or table lane None

-- the column of a lane that is drawn
abbrev pub drawn_in : List (Option ℕ) → ℕ → ℕ
drawn_in table lane = unwrap_or (column_in table lane) 0

-- a shape between columns in place of lanes
abbrev pub placed : List (Option ℕ) → Shape → Shape
placed table (shape.Passage p) =
    shape.Passage (record { from = drawn_in table p.from; to = drawn_in table p.to; begun = p.begun; is_again = p.is_again })
placed table (shape.Departure d) =
    shape.Departure (record { from = drawn_in table d.from; to = drawn_in table d.to; is_again = d.is_again; arrives = d.arrives })
placed table (shape.Sign at sign) = shape.Sign (drawn_in table at) sign
