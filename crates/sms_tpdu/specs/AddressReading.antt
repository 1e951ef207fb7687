-- An address field from left to right: each octet that is there is judged before those that are missing behind it.
use Rattle.std.specs.Prelude.{ℕ, zero, suc, ◌-◌, ◌/◌, ◌%◌, ◌^◌, List, [], ◌∷◌, take, Result, Ok, Bool, true, false, not, ◌&&◌, ◌||◌, nat_lt, ◌==◌, ok_or}
use Rattle.sms_base.specs.Reading.{◌>>=◌, only_if, octet_in, run_in}
use Rattle.sms_base.specs.SemiOctet.{digit_of}
use Rattle.sms_base.specs.Alphabet.{text_in}
use Rattle.sms_alphabet.specs.Packing.{value_in, digits_in as base_digits}
use Rattle.sms_tpdu.specs.AddressGrammar.{octets_for, name_length}
use Rattle.sms_base.specs.AddressKind.{type_of, is_name}
use Rattle.sms_base.specs.declared.type_of_number.TypeOfNumber.{TypeOfNumber}
use Rattle.sms_base.specs.declared.address.Address.{Address}
use Rattle.sms_tpdu.specs.declared.fault.TpduFault.{TpduFault}
use Rattle.sms_tpdu.specs.declared.fault.TpduFault.TheVariants.{Truncated, BadAddress}

-- two digits of an octet, the first in its low half
unfoldable pub two_digits_in : List ℕ → Result ((ℕ × ℕ) × List ℕ) TpduFault
two_digits_in octets = do
  octet ← octet_in Truncated octets
  digits ← only_if (not (octet.0 % 16 == 15) && not (octet.0 / 16 == 15)) BadAddress
  Ok ((digit_of (octet.0 % 16), digit_of (octet.0 / 16)), octet.1)

-- the last digit of an odd number of them, below a fill
unfoldable pub last_digit_in : List ℕ → Result (ℕ × List ℕ) TpduFault
last_digit_in octets = do
  octet ← octet_in Truncated octets
  filled ← only_if (not (octet.0 % 16 == 15) && (octet.0 / 16 == 15)) BadAddress
  Ok (digit_of (octet.0 % 16), octet.1)

unfoldable pub digits_in : ℕ → List ℕ → Result (List ℕ × List ℕ) TpduFault
digits_in zero octets = Ok ([], octets)
digits_in (suc zero) octets = do
  last ← last_digit_in octets
  Ok (last.0 ∷ [], last.1)
digits_in (suc (suc n)) octets = do
  two ← two_digits_in octets
  others ← digits_in n two.1
  Ok (two.0.0 ∷ two.0.1 ∷ others.0, others.1)

-- The septets of a name and what they are read as. The octets that are there decide whether a bit is spare.
unfoldable pub name_in : ℕ → List ℕ → Result (List ℕ × List ℕ) TpduFault
name_in count octets = do
  clear ← only_if (value_in 256 (take (octets_for count) octets) / 128 ^ name_length count == 0) BadAddress
  value ← run_in Truncated (octets_for count) octets
  Ok (text_in (base_digits 128 (name_length count) (value_in 256 (take (octets_for count) octets))), value.1)

unfoldable pub characters_in : Bool → ℕ → List ℕ → Result (List ℕ × List ℕ) TpduFault
characters_in false count octets = digits_in count octets
characters_in true count octets = name_in count octets

-- the type of number of a type of address
unfoldable pub type_of_number_in : ℕ → Result TypeOfNumber TpduFault
type_of_number_in octet = do
  high ← only_if (not (nat_lt octet 128)) BadAddress
  ok_or (type_of (octet / 16 - 8)) BadAddress

unfoldable pub address_in : List ℕ → Result (Address × List ℕ) TpduFault
address_in octets = do
  count ← octet_in Truncated octets
  some ← only_if (nat_lt 0 count.0 && nat_lt count.0 21) BadAddress
  kind ← octet_in Truncated count.1
  ton ← type_of_number_in kind.0
  letters ← only_if (not (is_name ton) || nat_lt 1 count.0) BadAddress
  digits ← characters_in (is_name ton) count.0 kind.1
  Ok (record { ton = ton; npi = kind.0 % 16; digits = digits.0 }, digits.1)
