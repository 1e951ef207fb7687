-- The parts of a message joined.
use Rattle.std.specs.Prelude.{ℕ, ◌+◌, List, [], ◌∷◌, ◌++◌, length, Bool, true, false, ◌&&◌, ◌==◌, Option, Some, None, if◌then◌else◌}
use Rattle.sms_alphabet.specs.declared.concat_key.ConcatKey.{ConcatKey}
use Rattle.sms_alphabet.specs.declared.concat_key.ConcatReference.{ConcatReference}
use Rattle.sms_alphabet.specs.declared.concat_key.ConcatReference.TheVariants.{EightBit, SixteenBit}
use Rattle.sms_concat.specs.declared.content.Content.{Content}
use Rattle.sms_concat.specs.declared.content.Part.{Part}

-- the key of a part; without one it counts as part 1 of 1
abbrev pub key_or_alone : Option ConcatKey → ConcatKey
key_or_alone None = record { reference = EightBit 0; total = 1; number = 1 }
key_or_alone (Some key) = key

-- references are one where their widths and their numbers are
abbrev pub is_same_reference : ConcatReference → ConcatReference → Bool
is_same_reference (EightBit a) (EightBit b) = a == b
is_same_reference (EightBit a) (SixteenBit b) = false
is_same_reference (SixteenBit a) (EightBit b) = false
is_same_reference (SixteenBit a) (SixteenBit b) = a == b

-- the part bears the number under the reference and the total, in the data coding scheme
abbrev pub bears : ConcatReference → ℕ → ℕ → ℕ → Part → Bool
bears reference total dcs number part =
    is_same_reference (key_or_alone part.key).reference reference && (key_or_alone part.key).total == total
    && (key_or_alone part.key).number == number && part.content.dcs == dcs

-- the parts bear the numbers from one on
abbrev pub bear_from : ConcatReference → ℕ → ℕ → ℕ → List Part → Bool
bear_from reference total dcs number [] = true
bear_from reference total dcs number (part ∷ parts) = bears reference total dcs number part && bear_from reference total dcs (number + 1) parts

-- the parts are all those of one message, in order: numbers 1 to total, under one key and one data coding scheme
abbrev pub is_whole : List Part → Bool
is_whole [] = false
is_whole (part ∷ parts) =
    (key_or_alone part.key).total == length (part ∷ parts)
    && bear_from (key_or_alone part.key).reference (key_or_alone part.key).total part.content.dcs 1 (part ∷ parts)

-- the units of the parts, in order
abbrev pub units_of : List Part → List ℕ
units_of [] = []
units_of (part ∷ parts) = part.content.units ++ units_of parts

-- the content that the parts join to, if they are all those of one message
abbrev pub content_joined : List Part → Option Content
content_joined [] = None
content_joined (part ∷ parts) =
    if is_whole (part ∷ parts) then Some (record { coding = part.content.coding; dcs = part.content.dcs; units = units_of (part ∷ parts) })
    else None
