-- Whether a unit can have an address.
use Rattle.std.specs.Prelude.{ℕ, ◌-◌, ◌&&◌, nat_le, nat_lt, List, [], ◌∷◌, length, Bool, true, false, if◌then◌else◌}
use Rattle.sms_base.specs.declared.address.Address.{Address}
use Rattle.sms_base.specs.declared.type_of_number.TypeOfNumber.{TypeOfNumber}
use Rattle.sms_base.specs.Address.{has_code, width_of}
use Rattle.sms_base.specs.AddressKind.{is_name}
use Rattle.sms_base.specs.Alphabet.{code_for}
use Rattle.sms_base.specs.SemiOctet.{is_digit}
use Rattle.std.specs.List.{list_all}

-- the characters take so many septets at most
abbrev pub is_name_within : ℕ → List ℕ → Bool
is_name_within left [] = true
is_name_within left (c ∷ cs) =
    if nat_le (width_of (code_for c)) left then has_code c && is_name_within (left - width_of (code_for c)) cs else false

abbrev pub is_number_text : List ℕ → Bool
is_number_text text = nat_le (length text) 20 && list_all is_digit text

abbrev pub is_address_text : TypeOfNumber → List ℕ → Bool
is_address_text ton text = nat_lt 0 (length text) && (if is_name ton then is_name_within 11 text else is_number_text text)

abbrev pub is_address : Address → Bool
is_address a = nat_lt a.npi 16 && is_address_text a.ton a.digits
