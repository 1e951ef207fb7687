-- Arrows of a ladder, place by place. Places are counted from the first lane, and lanes are so many places apart.
use Rattle.std.specs.Prelude.{ℕ, ◌+◌, ◌-◌, ◌*◌, ◌%◌, ◌==◌, ◌||◌, nat_lt, nat_le, Bool, true, false, if◌then◌else◌}

-- how far a place is from where an arrow begins, in the arrow's direction; 0 behind it
abbrev pub ahead : ℕ → ℕ → ℕ → ℕ → ℕ
ahead apart from to place = if nat_lt from to then place - apart * from else apart * from - place

-- how many places an arrow is long
abbrev pub reach : ℕ → ℕ → ℕ → ℕ
reach apart from to = if nat_lt from to then apart * (to - from) else apart * (from - to)

-- > or <
abbrev pub tip : ℕ → ℕ → ℕ
tip from to = if nat_lt from to then 62 else 60

-- a dash at each place, or at each second one
abbrev pub dash : Bool → ℕ → ℕ
dash is_whole distance = if is_whole || distance % 2 == 1 then 45 else 32

-- an arrow so long, at a distance from its beginning
abbrev pub arrow_mark : Bool → ℕ → ℕ → ℕ → ℕ
arrow_mark is_whole tip reach distance =
    if distance == 0 || nat_le reach distance then 32
    else (if distance + 1 == reach then tip else dash is_whole distance)

abbrev pub arrow_at : Bool → ℕ → ℕ → ℕ → ℕ → ℕ
arrow_at is_whole apart from to place = arrow_mark is_whole (tip from to) (reach apart from to) (ahead apart from to place)

-- the broken arrow of what never arrives: it ends in a cross, an x, before the next lane
abbrev pub lost_mark : ℕ → ℕ
lost_mark distance =
    if distance == 0 || nat_lt 11 distance then 32
    else (if distance == 11 then 120 else dash false distance)

abbrev pub lost_at : ℕ → ℕ → ℕ → ℕ → ℕ
lost_at apart from to place = lost_mark (ahead apart from to place)
