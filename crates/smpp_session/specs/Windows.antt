-- The deliver_sm that wait for their answers, by their sequence numbers.
use Rattle.std.specs.Prelude.{◌≡◌, ℕ, zero, suc, ◌+◌, ◌≤◌, List, [], ◌∷◌, length, Bool, true, false, ◌||◌, ◌==◌, if◌then◌else◌}
use Rattle.std.specs.List.{AllByRecursion}
use Rattle.smpp_pdu.specs.SequenceNumbers.{number_after}

-- whether the number is one of them
abbrev pub is_among : ℕ → List ℕ → Bool
is_among number [] = false
is_among number (waiting ∷ rest) = (waiting == number) || is_among number rest

-- those that are left when it is answered
abbrev pub without : ℕ → List ℕ → List ℕ
without number [] = []
without number (waiting ∷ rest) = if waiting == number then rest else waiting ∷ without number rest

abbrev pub is_none : List ℕ → Bool
is_none [] = true
is_none (number ∷ numbers) = false

-- how many may wait
abbrev pub window : ℕ
window = 10

-- so many numbers in a row, from one on
abbrev pub numbers_from : ℕ → ℕ → List ℕ
numbers_from zero number = []
numbers_from (suc count) number = number ∷ numbers_from count (number_after number)

-- the first of the numbers under which no deliver_sm waits, else another
abbrev pub first_free : ℕ → List ℕ → List ℕ → ℕ
first_free other waiting [] = other
first_free other waiting (number ∷ numbers) = if is_among number waiting then first_free other waiting numbers else number

-- The number of a deliver_sm: the first from there on under which none waits. Fewer than ten wait, so that one of ten in a
-- row is free.
unfoldable pub free_number : ℕ → List ℕ → ℕ
free_number number waiting = first_free number waiting (numbers_from window number)

-- ---- what is promised of them

abbrev pub IsSequenceNumber : ℕ → Type 0
IsSequenceNumber number = (1 ≤ number) × (number ≤ 0x7FFFFFFF)

-- no number is there twice
abbrev pub AreDistinct : List ℕ → Type 0
AreDistinct [] = Unit {0}
AreDistinct (number ∷ numbers) = (is_among number numbers ≡ false) × AreDistinct numbers

-- At most ten deliver_sm wait, under different numbers.
pub record IsWindow (waiting : List ℕ) : Type 0 where
  pub few : length waiting ≤ window
  pub distinct : AreDistinct waiting
  pub numbers : AllByRecursion IsSequenceNumber waiting
