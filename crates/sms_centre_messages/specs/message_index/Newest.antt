-- Where the newest change of each key is among the changes of an event.
use Rattle.std.specs.Prelude.{◌≡◌, ℕ, ◌<◌, List, length, nat_eq, option_and_then, slice_get, Some}
use Rattle.std.specs.Map.{lookup}
use Rattle.sms_rows.specs.declared.table.change.Change.{Change}
use Rattle.sms_rows.specs.table.Table.{newest_of}

-- the change at the place of a key is the newest one of that key, and a key without a place has none
pub record HasPlaces {A : Type 0} (key : A → ℕ) (changes : List (Change A)) (places : List (ℕ × ℕ)) : Type 0 where
  pub within : (n place : ℕ) → lookup (nat_eq n) places ≡ Some place → place < length changes
  pub newest : (n : ℕ) → newest_of key n changes ≡ option_and_then (slice_get changes) (lookup (nat_eq n) places)
