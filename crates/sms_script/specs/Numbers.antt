-- Numbers that are written in decimal digits, leading zeros among them.
use Rattle.std.specs.Prelude.{ℕ, ◌+◌, ◌-◌, ◌*◌, List, Bool, true, false, min, nat_le, ◌&&◌, ◌==◌, Result, Ok, Err, if◌then◌else◌}
use Rattle.std.specs.Str.{all_ascii_digits}
use Rattle.std.specs.Char.{is_ascii_digit}
use Rattle.std.specs.Str.Parse.{digits_value, digits_value_after}
use Rattle.sms_base.specs.Reading.{◌>>=◌}
use Rattle.sms_script.specs.declared.fault.LineFault.{LineFault}
use Rattle.sms_script.specs.declared.fault.LineFault.TheVariants.{BadLine}

-- the greatest number of 64 bits, which takes the place of those that are past it: no limit of a script is near it
abbrev pub greatest : ℕ
greatest = 18446744073709551615

unfoldable pub number_of : List ℕ → Result ℕ LineFault
number_of word = if all_ascii_digits word then Ok (min (digits_value 10 word) greatest) else Err BadLine

abbrev pub at_most : ℕ → ℕ → Result ℕ LineFault
at_most limit number = if nat_le number limit then Ok number else Err BadLine

-- a number up to a limit
abbrev pub small_of : ℕ → List ℕ → Result ℕ LineFault
small_of limit word = number_of word >>= at_most limit

abbrev pub flag_in : ℕ → Result Bool LineFault
flag_in number = if number == 0 then Ok false else (if number == 1 then Ok true else Err BadLine)

-- 0 or 1
abbrev pub flag_of : List ℕ → Result Bool LineFault
flag_of word = number_of word >>= flag_in

abbrev pub second_in : ℕ → Result ℕ LineFault
second_in number = if nat_le 946684800 number && nat_le number 4102444799 then Ok number else Err BadLine

-- a second of the years 2000 to 2099, counted from 1970
abbrev pub moment_of : List ℕ → Result ℕ LineFault
moment_of word = number_of word >>= second_in

-- ---- digit by digit

-- a number with one more digit
abbrev pub with_digit : ℕ → ℕ → Result ℕ LineFault
with_digit number octet =
    if is_ascii_digit octet then Ok (min (min (number * 10) greatest + (octet - 48)) greatest) else Err BadLine

-- a number with more digits
abbrev pub number_on : ℕ → List ℕ → Result ℕ LineFault
number_on number digits = if all_ascii_digits digits then Ok (min (digits_value_after 10 number digits) greatest) else Err BadLine
