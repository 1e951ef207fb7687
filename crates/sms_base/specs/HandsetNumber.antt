-- The numbers by which handsets are known.
use Rattle.std.specs.Prelude.{ℕ, ◌&&◌, nat_le, nat_lt, List, Bool, Option, Some, None, if◌then◌else◌}
use Rattle.std.specs.List.{list_all}
use Rattle.sms_base.specs.declared.address.Address.{Address}
use Rattle.sms_base.specs.declared.type_of_number.TypeOfNumber.TheVariants.{International}
use Rattle.sms_base.specs.AddressKind.{type_number}

-- 0 to 9
abbrev pub is_decimal : ℕ → Bool
is_decimal character = nat_le 48 character && nat_le character 57

-- A handset is named by its digits 0 to 9. Unknown, international and national numbers of the same digits name one
-- handset. Other types of number name none.
abbrev pub names_handset : Address → Bool
names_handset address = nat_lt (type_number address.ton) 3 && list_all is_decimal address.digits

-- the digits of the handset that an address names
abbrev pub handset_of : Address → Option (List ℕ)
handset_of address = if names_handset address then Some address.digits else None

-- the address of a handset as the centre writes it: an international number of the telephone numbering plan
abbrev pub own_address : List ℕ → Address
own_address digits = record { ton = International; npi = 1; digits = digits }
