-- The first row of a list that a test picks.
use Rattle.std.specs.Prelude.{ℕ, nat_le, nat_lt, List, [], ◌∷◌, Bool, false, if◌then◌else◌, Option, Some, None}
use Rattle.sms_rows.specs.declared.index.bound.Bound.{Bound}
use Rattle.sms_rows.specs.declared.index.bound.Bound.TheVariants.{Past, Ahead}

abbrev pub first_such : {A : Type 0} → (A → Bool) → List A → Option A
first_such test [] = None
first_such test (row ∷ rows) = if test row then Some row else first_such test rows

-- the moment is reached at now, or is not yet
abbrev pub is_within : Bound → ℕ → ℕ → Bool
is_within Past now moment = nat_le moment now
is_within Ahead now moment = nat_lt now moment

-- none from the one to the other moment is
abbrev pub has_none : Bound → ℕ → ℕ → ℕ → Bool
has_none Past now earliest latest = nat_lt now earliest
has_none Ahead now earliest latest = nat_le latest now

-- the row has at least that key, and such a moment
abbrev pub is_from : {A : Type 0} → (A → ℕ) → (A → ℕ) → Bound → ℕ → ℕ → A → Bool
is_from key moment bound first now row = if nat_le first (key row) then is_within bound now (moment row) else false

-- the row's moment is reached at now
abbrev pub is_past : {A : Type 0} → (A → ℕ) → ℕ → A → Bool
is_past moment now row = nat_le (moment row) now

-- the row's moment is not yet reached
abbrev pub is_ahead : {A : Type 0} → (A → ℕ) → ℕ → A → Bool
is_ahead moment now row = nat_lt now (moment row)

-- the row has at least that key, and its moment is reached
abbrev pub is_past_from : {A : Type 0} → (A → ℕ) → (A → ℕ) → ℕ → ℕ → A → Bool
is_past_from key moment first now row = if nat_le first (key row) then is_past moment now row else false

abbrev pub is_ahead_from : {A : Type 0} → (A → ℕ) → (A → ℕ) → ℕ → ℕ → A → Bool
is_ahead_from key moment first now row = if nat_le first (key row) then is_ahead moment now row else false
