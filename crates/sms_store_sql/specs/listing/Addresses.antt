-- Addresses in three columns.
use Rattle.std.specs.Prelude.{◌≡◌, ℕ, ◌≤◌, List, length, true, unwrap_or}
use Rattle.std.specs.Str.{all_scalars}
use Rattle.sqlite.specs.declared.types.Value.{Value}
use Rattle.sms_base.specs.AddressKind.{type_of}
use Rattle.sms_base.specs.declared.address.Address.{Address}
use Rattle.sms_base.specs.declared.type_of_number.TypeOfNumber.{TypeOfNumber}
use Rattle.sms_base.specs.declared.type_of_number.TypeOfNumber.TheVariants.{Unknown}
use Rattle.sms_store_sql.specs.listing.Columns.{IsOctet, number_in, characters_in}

abbrev pub ton_in : ℕ → TypeOfNumber
ton_in n = unwrap_or (type_of n) Unknown

-- the type of number, the numbering plan, and the characters of the digits or of the name
abbrev pub address_in : Value → Value → Value → Address
address_in ton npi text = record { ton = ton_in (number_in ton); npi = number_in npi; digits = characters_in text }

-- at most 20 characters, those of a number or of a name
pub record AreFew (characters : List ℕ) : Type 0 where
  pub few : length characters ≤ 20
  pub are : all_scalars characters ≡ true

-- an address that a row has: its numbering plan is an octet
pub record IsStoredAddress (address : Address) : Type 0 where
  pub npi : IsOctet address.npi
  pub digits : AreFew address.digits
