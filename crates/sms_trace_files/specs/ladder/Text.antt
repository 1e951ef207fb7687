-- A run as a ladder of text: the names of the lanes in a line, and a line for each row.
use Rattle.std.specs.Prelude.{ℕ, List, ◌++◌, Option, codes}
use Rattle.sms_trace_files.specs.ladder.Lines.{lines_drawn}
use Rattle.sms_trace_files.specs.ladder.Names.{apart, names_text}
use Rattle.sms_trace_files.specs.picture.Columns.{columns, drawn_before}
use Rattle.sms_trace_files.specs.declared.picture.drawing.Picture.{Picture}

unfoldable pub ladder_in_columns : List (Option ℕ) → ℕ → ℕ → Picture → List ℕ
ladder_in_columns table apart lanes p =
    names_text table apart 0 p.lanes.items ++ (codes "\n" ++ lines_drawn table apart lanes p.rows.items)

abbrev pub ladder_drawn : Picture → List ℕ
ladder_drawn p =
    ladder_in_columns (columns p.rows.items p.extent.lanes) (apart p.lanes.items) (drawn_before p.rows.items p.extent.lanes) p
