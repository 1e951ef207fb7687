-- User data and its length (3GPP TS 23.040 9.2.3.16, 9.2.3.24), in each coding, with and without a header.
use Rattle.std.specs.Prelude.{◌≡◌, ℕ, ◌+◌, ◌-◌, ◌≤◌, List, [], ◌∷◌, length, drop, Bool, true, false, nat_le, if◌then◌else◌}
use Rattle.sms_alphabet.specs.Packing.{IsPacking, AreSeptets, packed_len}
use Rattle.sms_alphabet.specs.UserDataLength.{fill_bits}
pub use Rattle.sms_alphabet.specs.UserDataLength.{greatest_length, header_septets}
use Rattle.sms_alphabet.specs.declared.scheme.Coding.{Coding}
use Rattle.sms_alphabet.specs.declared.scheme.Coding.TheVariants.{Septets, Octets, Ucs2, Compressed}
use Rattle.sms_tpdu.specs.declared.user_data.UserData.{UserData}
pub use Rattle.sms_tpdu.specs.DeliverWriting.{user_data_field}

-- how many octets user data of a length has
abbrev pub octets_of : Coding → ℕ → ℕ
octets_of Septets n = packed_len 0 n
octets_of Octets n = n
octets_of Ucs2 n = n
octets_of Compressed n = n

-- how many octets the header has, its length octet too
abbrev pub header_octets : Bool → List ℕ → ℕ
header_octets false octets = 0
header_octets true [] = 0
header_octets true (elements ∷ octets) = elements + 1

-- the fill bits behind a header; where the header fills the user data there are none
abbrev pub fill_behind : ℕ → ℕ → ℕ
fill_behind header n = if nat_le (header_septets header) n then fill_bits header else 0

-- Septets are packed behind the header, and every other bit there is zero.
abbrev pub IsPackedBehind : ℕ → ℕ → List ℕ → Type 0
IsPackedBehind header n octets =
    (septets : List ℕ) × AreSeptets septets × (length septets ≡ n - header_septets header)
    × IsPacking septets (fill_behind header n) (drop header octets)

-- What follows a header of so many octets: septets of the default alphabet, else octets of any value.
abbrev pub IsContentBehind : Coding → ℕ → ℕ → List ℕ → Type 0
IsContentBehind Septets header n octets = IsPackedBehind header n octets
IsContentBehind Octets header n octets = Unit {0}
IsContentBehind Ucs2 header n octets = Unit {0}
IsContentBehind Compressed header n octets = Unit {0}

-- a header precedes the octets, or none is there
abbrev pub HasHeader : Bool → List ℕ → Type 0
HasHeader false octets = Unit {0}
HasHeader true [] = ⊥
HasHeader true (elements ∷ octets) = elements ≤ length octets

pub record IsUserData (coding : Coding) (with_header : Bool) (u : UserData) : Type 0 where
  pub within : u.length ≤ greatest_length coding
  pub whole : length u.octets ≡ octets_of coding u.length
  pub header : HasHeader with_header u.octets
  pub content : IsContentBehind coding (header_octets with_header u.octets) u.length u.octets
