-- A content split into the parts of short messages.
use Rattle.std.specs.Prelude.{◌≡◌, ℕ, ◌+◌, ◌<◌, ◌≤◌, List, [], ◌∷◌, ◌++◌, length, Bool, true, false, Some, None, Result, Ok, Err, nat_lt, nat_le, if◌then◌else◌}
use Rattle.sms_alphabet.specs.declared.scheme.Coding.{Coding}
use Rattle.sms_alphabet.specs.declared.scheme.Coding.TheVariants.{Septets, Octets, Ucs2, Compressed}
use Rattle.sms_alphabet.specs.declared.concat_key.ConcatReference.TheVariants.{SixteenBit}
use Rattle.sms_concat.specs.declared.content.Content.{Content}
use Rattle.sms_concat.specs.declared.content.Part.{Part}
use Rattle.sms_concat.specs.declared.split_error.SplitError.{SplitError}
use Rattle.sms_concat.specs.declared.split_error.SplitError.TheVariants.{TooManyParts, DoesNotFit, NoMemory}
use Rattle.sms_concat.specs.UserData.{capacity}
use Rattle.sms_concat.specs.WholeUnits.{whole_units}
pub use Rattle.sms_concat.specs.Cutting.{alone, divided, is_compressed, numbered, numbered_all, pieces_of, room}
unfoldable pub use Rattle.sms_concat.specs.Cutting.{filled, split_of}

-- lists joined in order
abbrev pub joined : {X : Type 0} → List (List X) → List X
joined [] = []
joined (xs ∷ rest) = xs ++ joined rest

-- ---- splitting, as a relation

-- so many octets or septets have no room for the first of the whole units that follow, if any
abbrev pub HasNoRoom : ℕ → ℕ → List (List ℕ) → Type 0
HasNoRoom room size [] = Unit {0}
HasNoRoom room size (unit ∷ units) = room < size + length unit

-- one part: some whole units within the room, which has none for the first of those that follow
pub record IsFull (room : ℕ) (units : List (List ℕ)) (following : List (List ℕ)) : Type 0 where
  pub some : 0 < length units
  pub within : length (joined units) ≤ room
  pub full : HasNoRoom room (length (joined units)) following

-- parts, each as full as the next one's first whole unit allows
abbrev pub AreFull : ℕ → List (List (List ℕ)) → Type 0
AreFull room [] = Unit {0}
AreFull room (units ∷ parts) = IsFull room units (joined parts) × AreFull room parts

-- what each part holds
abbrev pub joined_each : List (List (List ℕ)) → List (List ℕ)
joined_each [] = []
joined_each (units ∷ parts) = joined units ∷ joined_each parts

-- the pieces are non-empty lists of the whole units, which joined are all of them, each as full as that allows
abbrev pub IsDivision : ℕ → List (List ℕ) → List (List ℕ) → Type 0
IsDivision room units pieces =
    (parts : List (List (List ℕ))) × AreFull room parts × (joined parts ≡ units) × (joined_each parts ≡ pieces)

-- The parts of a content: where it fits, one without a header; else its pieces under one 16-bit reference,
-- numbered from 1. A compressed content that does not fit has none.
pub record IsSplit (content : Content) (reference : ℕ) (parts : List Part) : Type 0 where
  pub fits : length content.units ≤ capacity content.coding → parts ≡ alone content
  pub cut : capacity content.coding < length content.units →
      (is_compressed content.coding ≡ false)
      × ((pieces : List (List ℕ)) × IsDivision (room content.coding) (whole_units content.coding content.units) pieces
      × (parts ≡ numbered content reference (length pieces) 1 pieces))

-- a compressed content that does not fit
abbrev pub IsUncut : Content → Type 0
IsUncut content = (is_compressed content.coding ≡ true) × (capacity content.coding < length content.units)

-- ---- splitting, from left to right

-- the answer is what it would be with memory, or there was none for the parts
abbrev pub Splits : Result (List Part) SplitError → Result (List Part) SplitError → Type 0
Splits (Ok parts) wanted = wanted ≡ Ok parts
Splits (Err NoMemory) wanted = (parts : List Part) × (wanted ≡ Ok parts)
Splits (Err TooManyParts) wanted = wanted ≡ Err TooManyParts
Splits (Err DoesNotFit) wanted = wanted ≡ Err DoesNotFit
