-- Tables: rows by their keys, in the order of their keys, at most one row a key; and changes of a table.
use Rattle.std.specs.Prelude.{◌≡◌, ℕ, zero, suc, ◌+◌, ◌*◌, ◌<◌, ◌≤◌, ◌==◌, nat_lt, nat_le, length, is_some, ◌||◌, Bool, true, false, if◌then◌else◌, Option}
use Rattle.std.specs.Prelude.{Some, None, List, [], ◌∷◌}
use Rattle.std.specs.List.{AllByRecursion, list_all}
use Rattle.sms_rows.specs.declared.table.change.Change.{Change}
use Rattle.sms_rows.specs.declared.table.change.Change.TheVariants.{Put, Remove}

-- the row of that key, if there is one
abbrev pub row_at : {A : Type 0} → (A → ℕ) → ℕ → List A → Option A
row_at key n [] = None
row_at key n (row ∷ rows) = if key row == n then Some row else row_at key n rows

-- there is a row of that key
abbrev pub is_there : {A : Type 0} → (A → ℕ) → ℕ → List A → Bool
is_there key n rows = is_some (row_at key n rows)

-- all their keys are from the one to the other
abbrev pub IsRange : {A : Type 0} → (A → ℕ) → ℕ → ℕ → List A → Type 0
IsRange key low high rows = (n : ℕ) → (nat_lt n low || nat_lt high n) ≡ true → is_there key n rows ≡ false

-- the rows from the first one that is not below the key
abbrev pub rows_from : {A : Type 0} → (A → ℕ) → ℕ → List A → List A
rows_from key n [] = []
rows_from key n (row ∷ rows) = if nat_lt (key row) n then rows_from key n rows else row ∷ rows

-- the rows before the first one that is not below the key
abbrev pub rows_before : {A : Type 0} → (A → ℕ) → ℕ → List A → List A
rows_before key n [] = []
rows_before key n (row ∷ rows) = if nat_lt (key row) n then row ∷ rows_before key n rows else []

-- the rows whose keys are not below the one and below the other
abbrev pub rows_between : {A : Type 0} → (A → ℕ) → ℕ → ℕ → List A → List A
rows_between key first end rows = rows_before key end (rows_from key first rows)

-- the rows of all other keys
abbrev pub without : {A : Type 0} → (A → ℕ) → ℕ → List A → List A
without key n [] = []
without key n (row ∷ rows) = if key row == n then without key n rows else row ∷ without key n rows

-- the rows of none of these keys
abbrev pub without_all : {A : Type 0} → (A → ℕ) → List ℕ → List A → List A
without_all key [] rows = rows
without_all key (n ∷ ns) rows = without_all key ns (without key n rows)

-- the row precedes the first row of a greater key
abbrev pub insert : {A : Type 0} → (A → ℕ) → A → List A → List A
insert key x [] = x ∷ []
insert key x (row ∷ rows) = if nat_lt (key x) (key row) then x ∷ row ∷ rows else row ∷ insert key x rows

-- the row takes the place of that of its key
abbrev pub put : {A : Type 0} → (A → ℕ) → A → List A → List A
put key x rows = insert key x (without key (key x) rows)

-- each row has a greater key
abbrev pub AllAbove : {A : Type 0} → (A → ℕ) → ℕ → List A → Type 0
AllAbove key n rows = AllByRecursion (λ row. n < key row) rows

-- the keys rise: the rows are in order, at most one a key
abbrev pub Rises : {A : Type 0} → (A → ℕ) → List A → Type 0
Rises key [] = Unit {0}
Rises key (row ∷ rows) = AllAbove key (key row) rows × Rises key rows

-- ---- places

-- that many rows of lower keys are first, and then the row of the key
abbrev pub IsAt : {A : Type 0} → (A → ℕ) → ℕ → ℕ → List A → Type 0
IsAt key n place [] = ⊥
IsAt key n zero (row ∷ rows) = key row ≡ n
IsAt key n (suc place) (row ∷ rows) = (key row < n) × IsAt key n place rows

-- that many rows of lower keys are first, and then rows of greater keys alone
abbrev pub IsGap : {A : Type 0} → (A → ℕ) → ℕ → ℕ → List A → Type 0
IsGap key n zero rows = AllAbove key n rows
IsGap key n (suc place) [] = ⊥
IsGap key n (suc place) (row ∷ rows) = (key row < n) × IsGap key n place rows

-- ---- memory

-- what a table keeps: its rows, and how many rows its memory holds
pub record RowsInMemory (A : Type 0) : Type 0 where
  pub rows : List A
  pub capacity : ℕ

-- that many rows can be put before memory is taken
abbrev pub HasRoom : {A : Type 0} → ℕ → RowsInMemory A → Type 0
HasRoom extra table = length table.rows + extra ≤ table.capacity

-- memory to be taken beside that of so many rows, which holds so many, for the extra ones. It is none where there is
-- room, else enough for twice the rows and the others. So a row that is put costs no more however many are there
abbrev pub reserve_beside : ℕ → ℕ → ℕ → ℕ
reserve_beside extra len capacity = if nat_le (len + extra) capacity then 0 else 2 * len + extra

-- memory to be taken beside a table's for that many rows more
abbrev pub reserve_for : {A : Type 0} → ℕ → RowsInMemory A → ℕ
reserve_for extra table = reserve_beside extra (length table.rows) table.capacity

-- ---- changes

-- the rows after a change
abbrev pub applied : {A : Type 0} → (A → ℕ) → Change A → List A → List A
applied key (Put x) rows = put key x rows
applied key (Remove n) rows = without key n rows

-- the rows after the changes, the oldest first
abbrev pub all_applied : {A : Type 0} → (A → ℕ) → List (Change A) → List A → List A
all_applied key [] rows = rows
all_applied key (change ∷ changes) rows = all_applied key changes (applied key change rows)

-- it removes a row
abbrev pub is_removal_of : {A : Type 0} → Change A → Bool
is_removal_of (Put x) = false
is_removal_of (Remove n) = true

-- each of them does
abbrev pub AreRemovals : {A : Type 0} → List (Change A) → Type 0
AreRemovals changes = list_all is_removal_of changes ≡ true

-- the key that a change is of
abbrev pub change_key : {A : Type 0} → (A → ℕ) → Change A → ℕ
change_key key (Put x) = key x
change_key key (Remove n) = n

-- the row that a change leaves under its key
abbrev pub change_row : {A : Type 0} → Change A → Option A
change_row (Put x) = Some x
change_row (Remove n) = None

-- the later one, if there is one
abbrev pub latest : {C : Type 0} → Option C → Option C → Option C
latest earlier (Some change) = Some change
latest earlier None = earlier

-- the newest of the changes that is of that key, if there is one
abbrev pub newest_of : {A : Type 0} → (A → ℕ) → ℕ → List (Change A) → Option (Change A)
newest_of key n [] = None
newest_of key n (change ∷ changes) = latest (if change_key key change == n then Some change else None) (newest_of key n changes)

-- what the change left, or else the row that was there
abbrev pub left_by : {A : Type 0} → Option (Change A) → Option A → Option A
left_by (Some change) row = change_row change
left_by None row = row
