-- Rows that were put one after the other.
use Rattle.std.specs.Prelude.{ℕ, ◌≤◌, ◌==◌, if◌then◌else◌, List, [], ◌∷◌, Option, Some, None}
use Rattle.std.specs.List.{AllByRecursion}
use Rattle.std.specs.Option.{option_or}
use Rattle.sms_rows.specs.table.Table.{put}
use Rattle.sms_centre_rows.specs.declared.waiting.reference.ReferenceRow.{ReferenceRow}

-- the rows once these were put, the first one first
abbrev pub all_put : {A : Type 0} → (A → ℕ) → List A → List A → List A
all_put key [] rows = rows
all_put key (x ∷ xs) rows = all_put key xs (put key x rows)

-- the last of the rows that has that key, if there is one
abbrev pub newest : {A : Type 0} → (A → ℕ) → ℕ → List A → Option A
newest key n [] = None
newest key n (x ∷ xs) = option_or (newest key n xs) (if key x == n then Some x else None)

-- none was given after that moment
abbrev pub AllGivenBy : ℕ → List ReferenceRow → Type 0
AllGivenBy moment rows = AllByRecursion (λ row. row.last ≤ moment) rows
