-- The parts of one message taken one by one, in whatever order they arrive.
use Rattle.std.specs.Prelude.{◌≡◌, ℕ, ◌<◌, List, [], ◌∷◌, length, Bool, true, false, not, ◌&&◌, ◌==◌, nat_lt, nat_le, if◌then◌else◌, Option, None, Result, Ok}
use Rattle.std.specs.Prelude.{Err}
use Rattle.std.specs.List.{list_any}
use Rattle.sms_base.specs.Among.{Among}
use Rattle.sms_alphabet.specs.declared.concat_key.ConcatKey.{ConcatKey}
use Rattle.sms_alphabet.specs.declared.concat_key.ConcatReference.{ConcatReference}
use Rattle.sms_concat.specs.declared.content.Content.{Content}
use Rattle.sms_concat.specs.declared.content.Part.{Part}
use Rattle.sms_concat.specs.declared.joiner.add_error.AddError.{AddError}
use Rattle.sms_concat.specs.declared.joiner.add_error.AddError.TheVariants.{NoPlace}
use Rattle.sms_concat.specs.Joining.{key_or_alone, is_same_reference, content_joined}

-- the message, by the reference and the total of its key, and the parts of it that were taken, in the order of their numbers
pub record Taken : Type 0 where
  pub reference : ConcatReference
  pub total : ℕ
  pub parts : List Part

-- none of the message with this key, whatever its number
abbrev pub none_taken : ConcatKey → Taken
none_taken key = record { reference = key.reference; total = key.total; parts = [] }

abbrev pub number_of : Part → ℕ
number_of part = (key_or_alone part.key).number

-- the part is of the message with the reference and the total: its number is one from 1 to the total
abbrev pub belongs : ConcatReference → ℕ → Part → Bool
belongs reference total part =
    is_same_reference (key_or_alone part.key).reference reference && (key_or_alone part.key).total == total
    && nat_lt 0 (number_of part) && nat_le (number_of part) total

abbrev pub has_number : ℕ → List Part → Bool
has_number number parts = list_any (λ part. number_of part == number) parts

-- the part is of the message, and none of its number was taken
abbrev pub takes : Taken → Part → Bool
takes taken part = belongs taken.reference taken.total part && not (has_number (number_of part) taken.parts)

-- the parts with one more, in front of the first that has a greater number
abbrev pub inserted : Part → List Part → List Part
inserted part [] = part ∷ []
inserted part (first ∷ rest) =
    if nat_lt (number_of part) (number_of first) then part ∷ first ∷ rest else first ∷ inserted part rest

abbrev pub with_part : Taken → Part → Taken
with_part taken part = record taken { parts = inserted part taken.parts }

-- as many parts as the message has
abbrev pub is_full : Taken → Bool
is_full taken = length taken.parts == taken.total

-- ---- what was taken is in order

abbrev pub AllBelong : ConcatReference → ℕ → List Part → Type 0
AllBelong reference total [] = Unit {0}
AllBelong reference total (part ∷ parts) = (belongs reference total part ≡ true) × AllBelong reference total parts

-- the numbers rise from part to part, and all are above the one given
abbrev pub RiseFrom : ℕ → List Part → Type 0
RiseFrom low [] = Unit {0}
RiseFrom low (part ∷ parts) = (low < number_of part) × RiseFrom (number_of part) parts

pub record IsTaken (taken : Taken) : Type 0 where
  pub of_message : AllBelong taken.reference taken.total taken.parts
  pub in_order : RiseFrom 0 taken.parts

-- ---- one part

-- what adding a part answers, and leaves: C3 exactly where the part isn't taken
abbrev pub Adds : Result (Unit {0}) AddError → Taken → Taken → Part → Type 0
Adds (Ok done) old new part = (takes old part ≡ true) × (new ≡ with_part old part)
Adds (Err (NoPlace back)) old new part = (takes old part ≡ false) × (back ≡ part) × (new ≡ old)

-- ---- all that arrive

-- one part after the other; what isn't taken is passed over
abbrev pub all_taken : Taken → List Part → Taken
all_taken taken [] = taken
all_taken taken (part ∷ parts) = all_taken (if takes taken part then with_part taken part else taken) parts

-- the content of the parts that arrived, the first of which says of which message they are
abbrev pub joined_stepwise : List Part → Option Content
joined_stepwise [] = None
joined_stepwise (first ∷ came) = content_joined (all_taken (none_taken (key_or_alone first.key)) (first ∷ came)).parts

-- these parts arrived: each of them, in any order, some more than once, and no other
pub record AreSameParts (came parts : List Part) : Type 0 where
  pub each : (part : Part) → Among part parts → Among part came
  pub no_other : (part : Part) → Among part came → Among part parts
