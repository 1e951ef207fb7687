-- The address fields (3GPP TS 23.040 9.1.2.5): how many semi-octets are useful, the type of address, the address value.
use Rattle.std.specs.Prelude.{◌≡◌, ℕ, ◌+◌, ◌*◌, ◌/◌, ◌<◌, ◌≤◌, List, [], ◌∷◌, ◌++◌, length, Bool, true, false, Option, Some, None}
use Rattle.std.specs.Option.{unwrap_or}
use Rattle.std.specs.List.{AllByRecursion}
use Rattle.sms_base.specs.SemiOctet.{semi_octet_of, is_digit}
use Rattle.sms_base.specs.AddressKind.{type_number, is_name}
use Rattle.sms_base.specs.Address.{IsAddress}
use Rattle.sms_base.specs.Alphabet.{code_for, septets_in, text_in}
use Rattle.sms_base.specs.declared.address.Address.{Address}
use Rattle.sms_base.specs.declared.alphabet.Code.{Code}
use Rattle.sms_alphabet.specs.Packing.{AreSeptets, value_in, digits_in, packed_len}
pub use Rattle.sms_tpdu.specs.AddressWriting.{address_field, address_length, address_value, code_septets, name_semi_octets, name_septets, packed_name}
pub use Rattle.sms_tpdu.specs.AddressWriting.{semi_octet, semi_octets, type_of_address}

abbrev pub AreDigits : List ℕ → Type 0
AreDigits ds = AllByRecursion (λ d. is_digit d ≡ true) ds

-- ---- names: septets of the default alphabet, packed

abbrev pub name_length : ℕ → ℕ
name_length count = 4 * count / 7

-- how many octets hold that many semi-octets
abbrev pub octets_for : ℕ → ℕ
octets_for count = (count + 1) / 2

-- The octets have the value of the septets: each septet in its seven bits, and every bit above them is zero.
-- The name is what the septets are read as.
abbrev pub IsNameField : List ℕ → Address → Type 0
IsNameField text a =
    (count : ℕ) × (septets : List ℕ) × (value : List ℕ)
    × (count ≤ 20) × (length septets ≡ name_length count) × (0 < length septets) × AreSeptets septets
    × (length value ≡ octets_for count) × (value_in 256 value ≡ value_in 128 septets)
    × (a.digits ≡ text_in septets)
    × (text ≡ count ∷ type_of_address a ∷ value)

-- ---- the address field

abbrev pub IsSpelledAddress : Bool → List ℕ → Address → Type 0
IsSpelledAddress false text a = text ≡ length a.digits ∷ type_of_address a ∷ semi_octets a.digits
IsSpelledAddress true text a = IsNameField text a

pub record IsAddressField (text : List ℕ) (a : Address) : Type 0 where
  pub valid : IsAddress a
  pub spelled : IsSpelledAddress (is_name a.ton) text a

-- the value of an address element of the relay layer (3GPP TS 24.011 8.2.5.1): without the number of semi-octets
abbrev pub relay_address : Address → List ℕ
relay_address a = type_of_address a ∷ address_value (is_name a.ton) a.digits
