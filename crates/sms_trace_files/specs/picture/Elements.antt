-- The elements of a picture as they are written (Scalable Vector Graphics 1.1: lines 9.5, uses 5.6, text 10.4). Places are
-- counted in pixels from the left and the upper edge.
use Rattle.std.specs.Prelude.{ℕ, List, [], ◌∷◌, ◌++◌, codes, decimal}
use Rattle.sms_base.specs.Markup.{escaped}
use Rattle.sms_trace_files.specs.declared.picture.markup.Point.{Point}

unfoldable pub attribute : List ℕ → ℕ → List ℕ
attribute name number = codes " " ++ (name ++ (codes "=\"" ++ (decimal number ++ codes "\"")))

unfoldable pub line_ends : Point → Point → List ℕ
line_ends from to =
    attribute (codes "x1") from.x ++ (attribute (codes "y1") from.y ++ (attribute (codes "x2") to.x ++ attribute (codes "y2") to.y))

-- a line from a place to another
unfoldable pub line_element : List ℕ → Point → Point → List ℕ
line_element class from to = codes "<line class=\"" ++ (class ++ (codes "\"" ++ (line_ends from to ++ codes "/>\n")))

unfoldable pub place : Point → List ℕ
place at = attribute (codes "x") at.x ++ attribute (codes "y") at.y

-- a sign at a place
unfoldable pub sign_element : List ℕ → Point → List ℕ
sign_element name at =
    codes "<use href=\"#" ++ (name ++ (codes "\"" ++ (place at ++ codes "/>\n")))

unfoldable pub text_head : List ℕ → Point → List ℕ
text_head class at =
    codes "<text class=\"" ++ (class ++ (codes "\"" ++ (place at ++ codes ">")))

-- a text at a place
unfoldable pub text_element : List ℕ → Point → List ℕ → List ℕ
text_element class at text = text_head class at ++ (escaped text ++ codes "</text>\n")
