-- A picture as a whole (Scalable Vector Graphics 1.1): the lanes, the names of their sides, the rows and the legend.
use Rattle.std.specs.Prelude.{ℕ, zero, suc, ◌+◌, ◌*◌, List, [], ◌∷◌, ◌++◌, true, false, Option, None, Some, codes, decimal}
use Rattle.sms_trace_files.specs.picture.Columns.{column_in, columns, drawn_before}
use Rattle.sms_trace_files.specs.picture.Elements.{attribute, line_element, sign_element, text_element}
use Rattle.sms_trace_files.specs.picture.Looks.{looks}
use Rattle.sms_trace_files.specs.picture.Places.{heads, lane_x, names_y, row_y}
use Rattle.sms_trace_files.specs.picture.Rows.{arrow_class, lost_class, rows_drawn, sign_word}
use Rattle.sms_trace_files.specs.declared.picture.drawing.Extent.{Extent}
use Rattle.sms_trace_files.specs.declared.picture.drawing.Lane.{Lane}
use Rattle.sms_trace_files.specs.declared.picture.drawing.Picture.{Picture}
use Rattle.sms_trace_files.specs.declared.picture.rows.Sign.{Sign}
use Rattle.sms_trace_files.specs.declared.picture.rows.Sign.TheVariants.{Tick, Act, Restart}

-- ---- the head

-- the lanes, and the longest note beside them
abbrev pub wide : Extent → ℕ
wide e = lane_x e.lanes + 8 * e.longest

-- the rows, and the legend below them
abbrev pub tall : Extent → ℕ
tall e = row_y e.rows + 168

unfoldable pub pair : ℕ → ℕ → List ℕ
pair one other = decimal one ++ (codes " " ++ decimal other)

-- what is shown: from the left upper corner on, all of it
unfoldable pub view_box : Extent → List ℕ
view_box e = codes " viewBox=\"0 0 " ++ (pair (wide e) (tall e) ++ codes "\"")

unfoldable pub size : Extent → List ℕ
size e = attribute (codes "width") (wide e) ++ attribute (codes "height") (tall e)

unfoldable pub head : Extent → List ℕ
head e = codes "<svg xmlns=\"http://www.w3.org/2000/svg\"" ++ (view_box e ++ (size e ++ codes ">\n"))

-- ---- lanes

-- a line from above the first row to below the last of so many
unfoldable pub line_in : ℕ → Option ℕ → List ℕ
line_in rows None = []
line_in rows (Some column) = line_element (codes "lane") (record { x = lane_x column; y = 40 }) (record { x = lane_x column; y = row_y rows })

abbrev pub lanes_drawn : List (Option ℕ) → ℕ → List Lane → List ℕ
lanes_drawn table rows [] = []
lanes_drawn table rows (lane ∷ lanes) = line_in rows (column_in table lane.place) ++ lanes_drawn table rows lanes

-- the name of a side
unfoldable pub name_in : ℕ → List ℕ → Option ℕ → List ℕ
name_in head name None = []
name_in head name (Some column) = text_element (codes "name") (record { x = lane_x column; y = names_y head }) name

abbrev pub names_drawn : List (Option ℕ) → ℕ → List Lane → List ℕ
names_drawn table head [] = []
names_drawn table head (lane ∷ lanes) = name_in head lane.name (column_in table lane.place) ++ names_drawn table head lanes

-- the names so often
abbrev pub heads_drawn : List (Option ℕ) → List Lane → ℕ → List ℕ
heads_drawn table lanes zero = []
heads_drawn table lanes (suc head) = heads_drawn table lanes head ++ names_drawn table head lanes

-- ---- the legend

abbrev pub legend_y : ℕ → ℕ → ℕ
legend_y rows place = row_y rows + 24 * place

-- an arrow of that class, and what it means
unfoldable pub legend_arrow : ℕ → ℕ → List ℕ → List ℕ → List ℕ
legend_arrow rows place class words =
    line_element class (record { x = 40; y = legend_y rows place }) (record { x = 100; y = legend_y rows place })
    ++ text_element (codes "note") (record { x = 116; y = legend_y rows place + 4 }) words

-- a sign, and what it means
unfoldable pub legend_sign : ℕ → ℕ → Sign → List ℕ → List ℕ
legend_sign rows place sign words =
    sign_element (sign_word sign) (record { x = 70; y = legend_y rows place })
    ++ text_element (codes "note") (record { x = 116; y = legend_y rows place + 4 }) words

-- the broken arrow of what never arrives, and its cross
unfoldable pub legend_lost : ℕ → ℕ → List ℕ → List ℕ
legend_lost rows place words =
    legend_arrow rows place (lost_class false) words ++ sign_element (codes "cross") (record { x = 108; y = legend_y rows place })

unfoldable pub legend : ℕ → List ℕ
legend rows =
    legend_arrow rows 1 (arrow_class false) (codes "arrives")
    ++ (legend_arrow rows 2 (arrow_class true) (codes "is sent or handed over again")
    ++ (legend_lost rows 3 (codes "never arrives")
    ++ (legend_sign rows 4 Tick (codes "a clock ticks")
    ++ (legend_sign rows 5 Act (codes "an owner acts") ++ legend_sign rows 6 Restart (codes "a side starts again")))))

-- ---- the picture

-- how much is drawn: of the lanes those that a row touches
abbrev pub drawn_extent : Picture → Extent
drawn_extent p = record { lanes = drawn_before p.rows.items p.extent.lanes; rows = p.extent.rows; longest = p.extent.longest }

unfoldable pub drawn_between : List (Option ℕ) → Extent → Picture → List ℕ
drawn_between table extent p =
    lanes_drawn table extent.rows p.lanes.items
    ++ (heads_drawn table p.lanes.items (heads extent.rows) ++ rows_drawn table extent.lanes p.rows.items)

unfoldable pub drawn_in_columns : List (Option ℕ) → Extent → Picture → List ℕ
drawn_in_columns table extent p = head extent ++ (looks ++ (drawn_between table extent p ++ (legend extent.rows ++ codes "</svg>\n")))

abbrev pub picture_drawn : Picture → List ℕ
picture_drawn p = drawn_in_columns (columns p.rows.items p.extent.lanes) (drawn_extent p) p
