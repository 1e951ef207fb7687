-- Room for all seats of a hub.
use Rattle.std.specs.Prelude.{ℕ, ◌<◌, ◌≤◌, List, length}
use Rattle.std.specs.List.{AllByRecursion}
use Rattle.sms_rows.specs.table.Table.{RowsInMemory}

-- each row is of one of the 32 seats of a hub
abbrev pub AreSeats : {A : Type 0} → (A → ℕ) → List A → Type 0
AreSeats key rows = AllByRecursion (λ row. key row < 32) rows

-- the rows are of seats, and there is room for one row more than there are seats
abbrev pub IsRoomy : {A : Type 0} → (A → ℕ) → RowsInMemory A → Type 0
IsRoomy key table = AreSeats key table.rows × (32 < table.capacity)
