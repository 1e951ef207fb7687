-- A table in the middle of an event, for definitions of stages: the rows that were there, and what was put since, the
-- newest first. The rows as they are now are computed, so that a stage which leaves a table alone leaves its rows.
use Rattle.std.specs.Prelude.{ℕ, List, [], ◌∷◌, ◌++◌}
use Rattle.sms_rows.specs.declared.table.change.Change.{Change}
use Rattle.sms_rows.specs.declared.table.change.Change.TheVariants.{Put, Remove}
use Rattle.sms_rows.specs.table.Table.{applied}

pub record Since (A : Type 0) : Type 0 where
  pub base : List A
  pub news : List (Change A)

-- nothing was put yet
abbrev pub untouched : {A : Type 0} → List A → Since A
untouched rows = record { base = rows; news = [] }

abbrev pub rows_after : {A : Type 0} → (A → ℕ) → List (Change A) → List A → List A
rows_after key [] base = base
rows_after key (c ∷ cs) base = applied key c (rows_after key cs base)

-- the rows as they are now
abbrev pub rows_of : {A : Type 0} → (A → ℕ) → Since A → List A
rows_of key t = rows_after key t.news t.base

abbrev pub put_in : {A : Type 0} → A → Since A → Since A
put_in x t = record { base = t.base; news = Put x ∷ t.news }

abbrev pub take_out : {A : Type 0} → ℕ → Since A → Since A
take_out n t = record { base = t.base; news = Remove n ∷ t.news }

-- the changes as they are committed
abbrev pub oldest_first : {A : Type 0} → List (Change A) → List (Change A)
oldest_first [] = []
oldest_first (c ∷ cs) = oldest_first cs ++ c ∷ []
