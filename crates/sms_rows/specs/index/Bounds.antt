-- The moments of the rows lie between two.
use Rattle.std.specs.Prelude.{ℕ, ◌≤◌, List}
use Rattle.std.specs.List.{AllByRecursion}
use Rattle.sms_rows.specs.index.Shapes.{TreeOf}

abbrev pub AreBetween : {A : Type 0} → (A → ℕ) → ℕ → ℕ → List A → Type 0
AreBetween moment earliest latest rows = AllByRecursion (λ row. (earliest ≤ moment row) × (moment row ≤ latest)) rows

abbrev pub IsBounded : {A : Type 0} → (A → ℕ) → TreeOf A → Type 0
IsBounded moment t = AreBetween moment t.earliest t.latest t.rows
