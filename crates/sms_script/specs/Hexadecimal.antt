-- Octets that are written in hexadecimal digits of either case, the high half of an octet first.
use Rattle.std.specs.Prelude.{ℕ, ◌+◌, ◌*◌, ◌%◌, ◌==◌, ◌&&◌, List, [], ◌∷◌, length, Bool, Option, Some, None, Result, Ok, Err, if◌then◌else◌}
use Rattle.std.specs.List.{list_all}
use Rattle.std.specs.Option.{unwrap_or}
use Rattle.std.specs.Str.{is_utf8}
use Rattle.hex.specs.Hex.{hex_digit_value, is_hex_digit}
use Rattle.sms_script.specs.declared.fault.LineFault.{LineFault}
use Rattle.sms_script.specs.declared.fault.LineFault.TheVariants.{BadLine}

-- an even number of digits
abbrev pub spells : List ℕ → Bool
spells digits = (length digits % 2 == 0) && list_all is_hex_digit digits

-- the value of a digit; 0 for what is none
abbrev pub digit_or_zero : ℕ → ℕ
digit_or_zero digit = unwrap_or (hex_digit_value digit) 0

-- the octets that digits spell, two by two
abbrev pub spelled : List ℕ → List ℕ
spelled (high ∷ low ∷ digits) = (digit_or_zero high * 16 + digit_or_zero low) ∷ spelled digits
spelled (digit ∷ []) = []
spelled [] = []

abbrev pub octets_of : List ℕ → Result (List ℕ) LineFault
octets_of digits = if spells digits then Ok (spelled digits) else Err BadLine

abbrev pub octet_from : Option ℕ → Option ℕ → Result ℕ LineFault
octet_from (Some high) (Some low) = Ok (high * 16 + low)
octet_from (Some high) None = Err BadLine
octet_from None low = Err BadLine

-- the octet that two digits write
abbrev pub octet_of : List ℕ → Result ℕ LineFault
octet_of (high ∷ low ∷ []) = octet_from (hex_digit_value high) (hex_digit_value low)
octet_of _ = Err BadLine

-- octets that are text in UTF-8
abbrev pub text_of : List ℕ → Result (List ℕ) LineFault
text_of octets = if is_utf8 octets then Ok octets else Err BadLine
