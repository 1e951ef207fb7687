-- Numbers in words, in decimal digits alone.
use Rattle.std.specs.Prelude.{◌≡◌, ◌<◌, ℕ, ◌≤◌, List, true, length}
use Rattle.std.specs.List.{list_all}
use Rattle.std.specs.Str.Parse.{digits_value}
use Rattle.sms_base.specs.HandsetNumber.{is_decimal}

-- one digit or more
pub record SpellsCount (text : List ℕ) (count : ℕ) : Type 0 where
  pub some : 0 < length text
  pub digits : list_all is_decimal text ≡ true
  pub value : digits_value 10 text ≡ count

-- one that is not below the least
pub record SpellsFrom (least : ℕ) (text : List ℕ) (number : ℕ) : Type 0 where
  pub count : SpellsCount text number
  pub enough : least ≤ number

-- one that is not above the most either
pub record SpellsBetween (least most : ℕ) (text : List ℕ) (number : ℕ) : Type 0 where
  pub from : SpellsFrom least text number
  pub few : number ≤ most

-- a count of 32 bits
abbrev pub IsCount : List ℕ → ℕ → Type 0
IsCount = SpellsBetween 0 4_294_967_295

abbrev pub IsPort : List ℕ → ℕ → Type 0
IsPort = SpellsBetween 1 65535

-- how many parts a handset's store has room for
abbrev pub IsSlots : List ℕ → ℕ → Type 0
IsSlots = SpellsBetween 1 255

-- how many sessions an account may have at once; a server has 32 seats
abbrev pub IsSessions : List ℕ → ℕ → Type 0
IsSessions = SpellsBetween 1 32
