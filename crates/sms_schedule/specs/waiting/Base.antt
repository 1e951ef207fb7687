-- Rows that precede others.
use Rattle.std.specs.Prelude.{ℕ, ◌<◌, List}
use Rattle.std.specs.List.{AllByRecursion}

-- each row has a lower key
abbrev pub AllBelow : {A : Type 0} → (A → ℕ) → ℕ → List A → Type 0
AllBelow key n rows = AllByRecursion (λ row. key row < n) rows
