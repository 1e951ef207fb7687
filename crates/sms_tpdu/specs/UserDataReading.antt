-- User data and its length from left to right.
use Rattle.std.specs.Prelude.{ℕ, ◌-◌, List, [], ◌∷◌, take, drop, Result, Ok, Err, Bool, true, false, not, ◌||◌, nat_lt, nat_le}
use Rattle.sms_base.specs.Reading.{◌>>=◌, only_if, octet_in, run_in}
use Rattle.sms_alphabet.specs.Packing.{tested}
use Rattle.sms_alphabet.specs.declared.scheme.Coding.{Coding}
use Rattle.sms_alphabet.specs.declared.scheme.Coding.TheVariants.{Septets, Octets, Ucs2, Compressed}
use Rattle.sms_alphabet.specs.declared.unpacking.UnpackError.{UnpackError}
use Rattle.sms_alphabet.specs.declared.unpacking.UnpackError.TheVariants.{TooShort, SpareBits as BitsOutside, NoMemory}
use Rattle.sms_tpdu.specs.UserDataGrammar.{greatest_length, octets_of, header_octets, header_septets, fill_behind}
use Rattle.sms_tpdu.specs.declared.user_data.UserData.{UserData}
use Rattle.sms_tpdu.specs.declared.fault.TpduFault.{TpduFault}
use Rattle.sms_tpdu.specs.declared.fault.TpduFault.TheVariants.{Truncated, UserDataTooLong, SpareBits, BadHeader}

-- a header whose first octet is there ends within so many octets
abbrev pub header_fits : Bool → ℕ → List ℕ → Bool
header_fits false count octets = true
header_fits true count [] = true
header_fits true count (elements ∷ octets) = nat_lt elements count

-- the fault of a test of the bits outside the septets
abbrev pub of_test : Result (Unit {0}) UnpackError → Result (Unit {0}) TpduFault
of_test (Ok done) = Ok tt
of_test (Err TooShort) = Err Truncated
of_test (Err BitsOutside) = Err SpareBits
of_test (Err NoMemory) = Err Truncated

-- the bits behind the header, as far as the octets are there
abbrev pub content_test : Coding → ℕ → ℕ → List ℕ → Result (Unit {0}) TpduFault
content_test Septets header n octets = of_test (tested (drop header octets) (fill_behind header n) (n - header_septets header))
content_test Octets header n octets = Ok tt
content_test Ucs2 header n octets = Ok tt
content_test Compressed header n octets = Ok tt

-- the header and the bits behind it, as far as the octets are there
unfoldable pub text_test : Coding → Bool → ℕ → List ℕ → Result (Unit {0}) TpduFault
text_test coding with_header n there = do
  header ← only_if (header_fits with_header (octets_of coding n) there) BadHeader
  content_test coding (header_octets with_header there) n there

-- the octets of user data of length n
unfoldable pub text_in : Coding → Bool → ℕ → List ℕ → Result (List ℕ × List ℕ) TpduFault
text_in coding with_header n octets = do
  sound ← text_test coding with_header n (take (octets_of coding n) octets)
  run_in Truncated (octets_of coding n) octets

unfoldable pub user_data_in : Coding → Bool → List ℕ → Result (UserData × List ℕ) TpduFault
user_data_in coding with_header octets = do
  n ← octet_in Truncated octets
  within ← only_if (nat_le n.0 (greatest_length coding)) UserDataTooLong
  some ← only_if (not with_header || nat_lt 0 n.0) BadHeader
  text ← text_in coding with_header n.0 n.1
  Ok (record { length = n.0; octets = text.0 }, text.1)
