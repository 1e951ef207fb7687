-- The numbers of handsets.
use Rattle.std.specs.Prelude.{ℕ, ◌&&◌, not, nat_eq, List, length, Bool}
use Rattle.std.specs.List.{list_all}
use Rattle.sms_base.specs.SemiOctet.{is_digit}

-- some digits
abbrev pub is_number : List ℕ → Bool
is_number number = not (nat_eq (length number) 0) && list_all is_digit number
