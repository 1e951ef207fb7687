-- The parts that an event put among its changes: each is found at once by its key.
use Rattle.std.specs.Prelude.{◌≡◌, ℕ, ◌<◌, ◌==◌, nat_eq, List, [], ◌∷◌, length, if◌then◌else◌, Option, Some, None, option_and_then, slice_get}
use Rattle.std.specs.Map.{lookup}
use Rattle.std.specs.Option.{option_map, option_or}
use Rattle.sms_centre_rows.specs.declared.messages.part.PartRow.{PartRow}
use Rattle.sms_centre_rows.specs.messages.Messages.{part_key}
use Rattle.sms_centre_rows.specs.declared.waiting.revision.Revision.{Revision}
use Rattle.sms_centre_rows.specs.declared.waiting.revision.Revision.TheVariants.{Put, Amend, Remove}

-- the part that a change puts
abbrev pub put_of : Revision PartRow → Option PartRow
put_of (Put p) = Some p
put_of (Amend n progress) = None
put_of (Remove n) = None

-- ---- of changes with the newest first

-- the newest part of that key that was put
abbrev pub put_in : ℕ → List (Revision PartRow) → Option PartRow
put_in key [] = None
put_in key (Put p ∷ news) = if part_key p == key then Some p else put_in key news
put_in key (Amend n progress ∷ news) = put_in key news
put_in key (Remove n ∷ news) = put_in key news

abbrev pub tpdu_of : PartRow → List ℕ
tpdu_of p = p.tpdu

-- its TPDU, if the event put it; the TPDUs of all others are in the store
abbrev pub tpdu_put : ℕ → List (Revision PartRow) → Option (List ℕ)
tpdu_put key news = option_map tpdu_of (put_in key news)

-- ---- of changes with the oldest first

-- the part of that key that a change puts, if it does
abbrev pub put_at_key : ℕ → Revision PartRow → Option PartRow
put_at_key key (Put p) = if part_key p == key then Some p else None
put_at_key key (Amend n progress) = None
put_at_key key (Remove n) = None

-- the newest part of that key that was put
abbrev pub newest_put : ℕ → List (Revision PartRow) → Option PartRow
newest_put key [] = None
newest_put key (c ∷ cs) = option_or (newest_put key cs) (put_at_key key c)

-- the part that the change at a place puts
abbrev pub put_at : List (Revision PartRow) → ℕ → Option PartRow
put_at changes place = option_and_then put_of (slice_get changes place)

-- the part put at the place of a key is the newest one of that key, and a key without a place has none
pub record HasPuts (changes : List (Revision PartRow)) (places : List (ℕ × ℕ)) : Type 0 where
  pub within : (n place : ℕ) → lookup (nat_eq n) places ≡ Some place → place < length changes
  pub newest : (n : ℕ) → newest_put n changes ≡ option_and_then (put_at changes) (lookup (nat_eq n) places)
