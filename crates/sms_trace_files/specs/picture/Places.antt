-- Where lanes, rows and notes are in a picture, in pixels. Lanes are counted from the left, rows downwards, both from 0.
use Rattle.std.specs.Prelude.{ℕ, ◌+◌, ◌-◌, ◌*◌, ◌/◌}
use Rattle.sms_trace_files.specs.declared.picture.markup.Point.{Point}

abbrev pub lane_x : ℕ → ℕ
lane_x lane = 100 + 180 * lane

-- above each fortieth row there is room for the names of the lanes
abbrev pub row_y : ℕ → ℕ
row_y row = 60 + 24 * row + 30 * (row / 40)

-- the names of the lanes are above the first row, the fortieth behind it, and so on
abbrev pub names_y : ℕ → ℕ
names_y head = 30 + 990 * head

-- how often they are there, for so many rows
abbrev pub heads : ℕ → ℕ
heads rows = 1 + (rows - 1) / 40

-- where a lane and a row cross
abbrev pub on_lane : ℕ → ℕ → Point
on_lane lane row = record { x = lane_x lane; y = row_y row }

-- the middle between two lanes, in a row
abbrev pub halfway : ℕ → ℕ → ℕ → Point
halfway from to row = record { x = (lane_x from + lane_x to) / 2; y = row_y row }

-- notes are right of the last lane, on their row's line
abbrev pub note_at : ℕ → ℕ → Point
note_at lanes row = record { x = lane_x lanes - 80; y = row_y row + 4 }

-- the cross of a frame that never arrives is before its note, right of the last lane
abbrev pub cross_at : ℕ → ℕ → Point
cross_at lanes row = record { x = lane_x lanes - 92; y = row_y row }
