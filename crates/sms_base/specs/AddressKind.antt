-- The type of number of an address and its number (3GPP TS 23.040 9.1.2.5).
use Rattle.std.specs.Prelude.{ℕ, Option, Some, None, Bool, true, false, ◌==◌, if◌then◌else◌}
use Rattle.sms_base.specs.declared.type_of_number.TypeOfNumber.{TypeOfNumber}
use Rattle.sms_base.specs.declared.type_of_number.TypeOfNumber.TheVariants.{Unknown, International, National, NetworkSpecific, Subscriber, Alphanumeric}
use Rattle.sms_base.specs.declared.type_of_number.TypeOfNumber.TheVariants.{Abbreviated}

abbrev pub type_number : TypeOfNumber → ℕ
type_number Unknown = 0
type_number International = 1
type_number National = 2
type_number NetworkSpecific = 3
type_number Subscriber = 4
type_number Alphanumeric = 5
type_number Abbreviated = 6

-- the type with that number; 7 is reserved
abbrev pub type_of : ℕ → Option TypeOfNumber
type_of n =
    if n == 0 then Some Unknown
    else (if n == 1 then Some International
    else (if n == 2 then Some National
    else (if n == 3 then Some NetworkSpecific
    else (if n == 4 then Some Subscriber
    else (if n == 5 then Some Alphanumeric
    else (if n == 6 then Some Abbreviated else None))))))

-- an address of this type is a name in the default alphabet
abbrev pub is_name : TypeOfNumber → Bool
is_name Unknown = false
is_name International = false
is_name National = false
is_name NetworkSpecific = false
is_name Subscriber = false
is_name Alphanumeric = true
is_name Abbreviated = false
