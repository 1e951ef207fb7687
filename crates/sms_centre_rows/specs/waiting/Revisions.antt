-- Rows that keep a TPDU, in the middle of an event: those that were there, and the changes since, the newest first. A row is put
-- whole, or only how far it is changes.
use Rattle.std.specs.Prelude.{◌≡◌, ℕ, ◌==◌, if◌then◌else◌, Bool, true, false, List, [], ◌∷◌, ◌++◌}
use Rattle.std.specs.List.{list_all}
use Rattle.sms_rows.specs.table.Table.{put, without}
use Rattle.sms_centre_rows.specs.declared.waiting.progress.Progress.{Progress}
use Rattle.sms_centre_rows.specs.declared.waiting.revision.Revision.{Revision}
use Rattle.sms_centre_rows.specs.declared.waiting.revision.Revision.TheVariants.{Put, Amend, Remove}

-- the row of that key is so far
abbrev pub amended : {A : Type 0} → (A → ℕ) → (Progress → A → A) → ℕ → Progress → List A → List A
amended key reaching n progress [] = []
amended key reaching n progress (row ∷ rows) =
    (if key row == n then reaching progress row else row) ∷ amended key reaching n progress rows

-- the rows after a change
abbrev pub revised : {A : Type 0} → (A → ℕ) → (Progress → A → A) → Revision A → List A → List A
revised key reaching (Put x) rows = put key x rows
revised key reaching (Amend n progress) rows = amended key reaching n progress rows
revised key reaching (Remove n) rows = without key n rows

-- the rows after the changes, the oldest first
abbrev pub all_revised : {A : Type 0} → (A → ℕ) → (Progress → A → A) → List (Revision A) → List A → List A
all_revised key reaching [] rows = rows
all_revised key reaching (change ∷ changes) rows = all_revised key reaching changes (revised key reaching change rows)

-- it removes a row
abbrev pub removes_of : {A : Type 0} → Revision A → Bool
removes_of (Put x) = false
removes_of (Amend n progress) = false
removes_of (Remove n) = true

-- each of them does
abbrev pub OnlyRemove : {A : Type 0} → List (Revision A) → Type 0
OnlyRemove changes = list_all removes_of changes ≡ true

-- the key that a change is of
abbrev pub revision_key : {A : Type 0} → (A → ℕ) → Revision A → ℕ
revision_key key (Put x) = key x
revision_key key (Amend n progress) = n
revision_key key (Remove n) = n

-- ---- in the middle of an event

pub record Revised (A : Type 0) : Type 0 where
  pub base : List A
  pub news : List (Revision A)

-- nothing has changed yet
abbrev pub unrevised : {A : Type 0} → List A → Revised A
unrevised rows = record { base = rows; news = [] }

abbrev pub rows_after : {A : Type 0} → (A → ℕ) → (Progress → A → A) → List (Revision A) → List A → List A
rows_after key reaching [] base = base
rows_after key reaching (c ∷ cs) base = revised key reaching c (rows_after key reaching cs base)

-- the rows as they are now
abbrev pub rows_of : {A : Type 0} → (A → ℕ) → (Progress → A → A) → Revised A → List A
rows_of key reaching t = rows_after key reaching t.news t.base

abbrev pub put_in : {A : Type 0} → A → Revised A → Revised A
put_in x t = record { base = t.base; news = Put x ∷ t.news }

abbrev pub amend_in : {A : Type 0} → ℕ → Progress → Revised A → Revised A
amend_in n progress t = record { base = t.base; news = Amend n progress ∷ t.news }

-- the changes as they are committed
abbrev pub oldest_first : {A : Type 0} → List (Revision A) → List (Revision A)
oldest_first [] = []
oldest_first (c ∷ cs) = oldest_first cs ++ c ∷ []
