-- A table in the middle of an event, and what an event leaves of it.
use Rattle.std.specs.Prelude.{ℕ, ◌+◌, ◌≤◌, List, [], ◌∷◌, ◌++◌, length, max}
use Rattle.sms_rows.specs.declared.table.change.Change.{Change}
use Rattle.sms_rows.specs.table.Table.{RowsInMemory, all_applied}

-- the table as the event began, and what the event changed
pub record TableDraftOf (A : Type 0) : Type 0 where
  pub base : RowsInMemory A
  pub changes : List (Change A)

-- the rows as they are now
abbrev pub rows_in : {A : Type 0} → (A → ℕ) → TableDraftOf A → List A
rows_in key p = all_applied key p.changes p.base.rows

abbrev pub changed : {A : Type 0} → Change A → TableDraftOf A → TableDraftOf A
changed c p = record { base = p.base; changes = p.changes ++ c ∷ [] }

-- the changes, and how many rows the memory holds that they bring
pub record TablePlanOf (A : Type 0) : Type 0 where
  pub changes : List (Change A)
  pub reserve : ℕ

-- they can be put in without taking memory
abbrev pub FitsIn : {A : Type 0} → TablePlanOf A → RowsInMemory A → Type 0
FitsIn s table = length table.rows + length s.changes ≤ max table.capacity s.reserve
