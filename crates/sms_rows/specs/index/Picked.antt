-- What is kept of rows, in the order of their keys.
use Rattle.std.specs.Prelude.{ℕ, List, [], ◌∷◌, Option, Some, None}
use Rattle.sms_rows.specs.table.Table.{put, without}

-- what is kept of a row is first, if anything is
abbrev pub before_all : {B : Type 0} → Option B → List B → List B
before_all None kept = kept
before_all (Some k) kept = k ∷ kept

-- what is kept of each row
abbrev pub picked : {A : Type 0} → {B : Type 0} → (A → Option B) → List A → List B
picked pick [] = []
picked pick (row ∷ rows) = before_all (pick row) (picked pick rows)

-- what is kept of a row, if it is there
abbrev pub pick_of : {A : Type 0} → {B : Type 0} → (A → Option B) → Option A → Option B
pick_of pick None = None
pick_of pick (Some row) = pick row

-- under the key is that, or nothing
abbrev pub set_at : {A : Type 0} → (A → ℕ) → ℕ → Option A → List A → List A
set_at key n None rows = without key n rows
set_at key n (Some row) rows = put key row rows
