-- The concatenation key of a header: that of its last valid concatenation element.
use Rattle.std.specs.Prelude.{ℕ, ◌+◌, ◌*◌, ◌<◌, ◌≤◌, List, [], ◌∷◌, Bool, true, false, Option, Some, None, Result, Ok, Err, ◌&&◌, nat_lt, nat_le, ◌==◌}
use Rattle.std.specs.Prelude.{if◌then◌else◌}
use Rattle.sms_alphabet.specs.declared.element.Element.{Element}
use Rattle.sms_alphabet.specs.declared.header_error.HeaderError.{HeaderError}
use Rattle.sms_alphabet.specs.declared.concat_key.ConcatKey.{ConcatKey}
use Rattle.sms_alphabet.specs.declared.concat_key.ConcatReference.{ConcatReference}
use Rattle.sms_alphabet.specs.declared.concat_key.ConcatReference.TheVariants.{EightBit, SixteenBit}
use Rattle.sms_alphabet.specs.HeaderGrammar.{header_at}

-- the key, if the parts are counted from 1 to the total
abbrev pub counted : ConcatReference → ℕ → ℕ → Option ConcatKey
counted reference total number =
    if nat_lt 0 number && nat_le number total then Some (record { reference = reference; total = total; number = number }) else None

-- 3GPP TS 23.040 9.2.3.24.1: three octets, reference, total and number
abbrev pub eight_bit_key : List ℕ → Option ConcatKey
eight_bit_key (reference ∷ total ∷ number ∷ []) = counted (EightBit reference) total number
eight_bit_key octets = None

-- 3GPP TS 23.040 9.2.3.24.8: four octets, the reference in two, the high one first
abbrev pub sixteen_bit_key : List ℕ → Option ConcatKey
sixteen_bit_key (high ∷ low ∷ total ∷ number ∷ []) = counted (SixteenBit (256 * high + low)) total number
sixteen_bit_key octets = None

-- the key of an element, if it is a valid concatenation element
abbrev pub element_key : Element → Option ConcatKey
element_key e =
    if e.identifier == 0 then eight_bit_key e.octets
    else (if e.identifier == 8 then sixteen_bit_key e.octets else None)

-- the later of two keys
abbrev pub later : Option ConcatKey → Option ConcatKey → Option ConcatKey
later earlier None = earlier
later earlier (Some key) = Some key

-- the key of a header
unfoldable pub key_of : List Element → Option ConcatKey
key_of [] = None
key_of (e ∷ es) = later (element_key e) (key_of es)

-- the key of a header; one that no elements fill has none
abbrev pub key_found : Result (List Element) HeaderError → Option ConcatKey
key_found (Ok elements) = key_of elements
key_found (Err fault) = None

abbrev pub header_key : Bool → List ℕ → Option ConcatKey
header_key false octets = None
header_key true octets = key_found (header_at octets)

-- a key whose parts are counted from 1 to the total
abbrev pub IsKey : Option ConcatKey → Type 0
IsKey None = Unit {0}
IsKey (Some key) = (0 < key.number) × (key.number ≤ key.total)
