-- 3GPP TS 23.040 9.2.3.16 and 9.2.3.24: what TP-UDL counts, and what TP-UD has.
use Rattle.std.specs.Prelude.{◌≡◌, ℕ, ◌+◌, ◌-◌, ◌/◌, ◌%◌, ◌≤◌, List, [], ◌∷◌, ◌++◌, length, drop, Bool, true, false, Option, Some, None, Result, Ok, Err}
use Rattle.std.specs.Prelude.{nat_lt, if◌then◌else◌}
use Rattle.sms_base.specs.Reading.{◌>>=◌}
use Rattle.sms_alphabet.specs.Packing.{packed, IsPacking, AreSeptets, unpacked}
use Rattle.sms_alphabet.specs.DataCodingScheme.{coding_of}
pub use Rattle.sms_alphabet.specs.UserDataLength.{fill_bits, greatest_length as capacity, header_septets}
use Rattle.sms_alphabet.specs.declared.scheme.Coding.{Coding}
use Rattle.sms_alphabet.specs.declared.scheme.Coding.TheVariants.{Septets, Octets, Ucs2, Compressed}
use Rattle.sms_alphabet.specs.declared.unpacking.UnpackError.{UnpackError}
use Rattle.sms_alphabet.specs.declared.unpacking.UnpackError.TheVariants.{TooShort, SpareBits, NoMemory}
use Rattle.sms_alphabet.specs.declared.element.Element.{Element}
use Rattle.sms_alphabet.specs.declared.concat_key.ConcatKey.{ConcatKey}
use Rattle.sms_alphabet.specs.declared.concat_key.ConcatReference.{ConcatReference}
use Rattle.sms_alphabet.specs.declared.concat_key.ConcatReference.TheVariants.{EightBit, SixteenBit}
use Rattle.sms_concat.specs.declared.content.Content.{Content}
use Rattle.sms_concat.specs.declared.content.Part.{Part}
use Rattle.sms_concat.specs.declared.content.UserData.{UserData}
use Rattle.sms_alphabet.specs.HeaderGrammar.{written}
use Rattle.sms_alphabet.specs.Concatenation.{IsKey, header_key}
pub use Rattle.sms_concat.specs.UserDataWriting.{body_octets, content_of, data_length, header_of, header_size, is_there, key_element, nothing_behind}
pub use Rattle.sms_concat.specs.UserDataWriting.{octets_behind, septets_behind, units_behind, user_data_behind}
unfoldable pub use Rattle.sms_concat.specs.UserDataWriting.{part_in}

-- ---- lengths

-- ---- what is written

-- the octets of TP-UD: the header, and the units, septets packed behind fill bits
abbrev pub IsBody : Coding → List ℕ → List ℕ → List ℕ → Type 0
IsBody Septets header units octets = (packed : List ℕ) × IsPacking units (fill_bits (length header)) packed × (octets ≡ header ++ packed)
IsBody Octets header units octets = octets ≡ header ++ units
IsBody Ucs2 header units octets = octets ≡ header ++ units
IsBody Compressed header units octets = octets ≡ header ++ units

-- the fields that carry a content behind a header
pub record IsUserData (header : List ℕ) (content : Content) (user : UserData) : Type 0 where
  pub indicator_is : user.header_indicator ≡ is_there header
  pub length_is : user.length ≡ data_length content.coding (length header) (length content.units)
  pub body_is : IsBody content.coding header content.units user.octets

-- septets are below 128
abbrev pub AreUnits : Coding → List ℕ → Type 0
AreUnits Septets units = AreSeptets units
AreUnits Octets units = Unit {0}
AreUnits Ucs2 units = Unit {0}
AreUnits Compressed units = Unit {0}

-- a content that has room behind a header of so many octets
pub record FitsBehind (header : ℕ) (content : Content) : Type 0 where
  pub room : data_length content.coding header (length content.units) ≤ capacity content.coding
  pub units : AreUnits content.coding content.units

-- a part whose units have room behind its header
abbrev pub HasRoom : Part → Type 0
HasRoom part = FitsBehind (length (header_of part.key)) part.content

-- a part that can be read again: its scheme names its coding, and its key is valid
pub record IsPart (part : Part) : Type 0 where
  pub coding_is : part.content.coding ≡ coding_of part.content.dcs
  pub units : AreUnits part.content.coding part.content.units
  pub key_is : IsKey part.key

-- ---- what is read

-- the answer is what it would be with memory, or there was none for what would be read
abbrev pub AnswersPartRead : {X : Type 0} → Result X UnpackError → Result X UnpackError → Type 0
AnswersPartRead {X} (Ok x) wanted = wanted ≡ Ok x
AnswersPartRead {X} (Err NoMemory) wanted = (x : X) × (wanted ≡ Ok x)
AnswersPartRead {X} (Err TooShort) wanted = wanted ≡ Err TooShort
AnswersPartRead {X} (Err SpareBits) wanted = wanted ≡ Err SpareBits

-- a test found that something is read, or the fault for which it is not
abbrev pub Tests : {X : Type 0} → Result (Unit {0}) UnpackError → Result X UnpackError → Type 0
Tests {X} (Ok done) wanted = (x : X) × (wanted ≡ Ok x)
Tests {X} (Err e) wanted = wanted ≡ Err e
