-- The fixed part of a picture: how its classes and its signs look (Scalable Vector Graphics 1.1: style sheets 6.6, markers 11.6).
use Rattle.std.specs.Prelude.{ℕ, List, [], ◌∷◌, ◌++◌, codes}

-- a line has the colour of its class, and a broken one is dashed
unfoldable pub style : List ℕ
style = codes "<style>\nline { stroke: #1f5fa8; stroke-width: 1.5 }\n.lane { stroke: #b8b8b8; stroke-width: 1 }\n.arrow { marker-end: url(#arrow) }\n.again { stroke: #c2500a; marker-end: url(#again) }\n.lost { stroke-dasharray: 6 4; marker-end: none }\ntext { font: 12px monospace; fill: #202020 }\n.name { font-weight: bold; text-anchor: middle; paint-order: stroke; stroke: #fff; stroke-width: 6px }\n</style>\n"

-- the ends of arrows
unfoldable pub markers : List ℕ
markers = codes "<defs>\n<marker id=\"arrow\" viewBox=\"0 0 10 10\" refX=\"10\" refY=\"5\" markerWidth=\"6\" markerHeight=\"6\" orient=\"auto\"><path d=\"M0 0L10 5L0 10z\" fill=\"#1f5fa8\"/></marker>\n<marker id=\"again\" viewBox=\"0 0 10 10\" refX=\"10\" refY=\"5\" markerWidth=\"6\" markerHeight=\"6\" orient=\"auto\"><path d=\"M0 0L10 5L0 10z\" fill=\"#c2500a\"/></marker>\n"

-- a dot, the cross of what never arrives, a tick, an act of an owner, a side that starts again; and the ground
unfoldable pub signs : List ℕ
signs = codes "<circle id=\"dot\" r=\"2.5\" fill=\"#1f5fa8\"/>\n<path id=\"cross\" d=\"M-4 -4L4 4M4 -4L-4 4\" stroke=\"#b00020\" stroke-width=\"2\"/>\n<circle id=\"tick\" r=\"6\" fill=\"#fff\" stroke=\"#202020\"/>\n<rect id=\"act\" x=\"-5\" y=\"-5\" width=\"10\" height=\"10\" fill=\"#202020\"/>\n<path id=\"restart\" d=\"M-6 -6L6 6M6 -6L-6 6\" stroke=\"#b00020\" stroke-width=\"3\"/>\n</defs>\n<rect width=\"100%\" height=\"100%\" fill=\"#fff\"/>\n"

unfoldable pub looks : List ℕ
looks = style ++ (markers ++ signs)
