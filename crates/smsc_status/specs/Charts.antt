-- A figure over the last ten minutes, as a line in SVG.
use Rattle.std.specs.Prelude.{ℕ, suc, ◌-◌, ◌*◌, ◌/◌, max, min, List, [], ◌∷◌, ◌++◌, codes, decimal, length}

-- the greatest of the values
abbrev pub greatest_of : List ℕ → ℕ
greatest_of [] = 0
greatest_of (value ∷ values) = max value (greatest_of values)

-- how far below the upper edge a value is: the greatest at 2, and nothing at 98
abbrev pub height : ℕ → ℕ → ℕ
height value greatest = 98 - min (min value greatest * 96 / max greatest 1) 96

unfoldable pub point_text : ℕ → ℕ → List ℕ
point_text x y = decimal x ++ (codes "," ++ (decimal y ++ codes " "))

-- a point for each second, one right of the other
abbrev pub points_text : ℕ → ℕ → List ℕ → List ℕ
points_text x greatest [] = []
points_text x greatest (value ∷ values) = point_text x (height value greatest) ++ points_text (suc x) greatest values

-- the title, the scale beside the line, and lines at the greatest value, at half of it and at nothing
unfoldable pub caption_text : List ℕ → ℕ → List ℕ
caption_text title greatest =
    codes "<figure><figcaption>" ++ (title ++ (codes " <span class=\"most\">a second</span></figcaption><div class=\"plot\"><div class=\"scale\"><span>"
    ++ (decimal greatest
    ++ (codes "</span><span>0</span></div><svg viewBox=\"0 0 600 100\" preserveAspectRatio=\"none\" role=\"img\" aria-label=\"" ++ (title
    ++ (codes ", at most " ++ (decimal greatest ++ codes " a second\"><path d=\"M0 2.5H600M0 50.5H600M0 98.5H600\"/><polyline points=\"")))))))

-- the times below the line
unfoldable pub figure_end : List ℕ
figure_end =
    codes "\"/></svg></div><div class=\"times\"><span>10 minutes ago</span><span>5 minutes ago</span><span>now</span></div></figure>\n"

-- the last value is that of now, at 599 of 600
unfoldable pub figure_text : List ℕ → ℕ → List ℕ → List ℕ
figure_text title greatest values = caption_text title greatest ++ (points_text (600 - length values) greatest values ++ figure_end)

abbrev pub chart_text : List ℕ → List ℕ → List ℕ
chart_text title values = figure_text title (greatest_of values) values
