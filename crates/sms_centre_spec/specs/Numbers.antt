-- The number of a message as applications write it (SMPP v3.4 5.2.23): ten digits, not all of them 0.
use Rattle.std.specs.Prelude.{ℕ, ◌==◌, ◌&&◌, ◌+◌, ◌*◌, ◌-◌, nat_lt, List, [], ◌∷◌, length, if◌then◌else◌, Option, Some, None}
use Rattle.std.specs.List.{list_all}
use Rattle.sms_base.specs.HandsetNumber.{is_decimal}

abbrev pub decimal_value : ℕ → List ℕ → ℕ
decimal_value sum [] = sum
decimal_value sum (c ∷ cs) = decimal_value (10 * sum + (c - 48)) cs

abbrev pub id_in : List ℕ → Option ℕ
id_in text =
    if ((length text == 10) && list_all is_decimal text) && nat_lt 0 (decimal_value 0 text) then Some (decimal_value 0 text) else None
