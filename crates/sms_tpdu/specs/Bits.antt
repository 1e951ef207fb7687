-- Bits of an octet, each named by its value.
use Rattle.std.specs.Prelude.{ℕ, ◌/◌, ◌%◌, Bool, ◌==◌, if◌then◌else◌}

abbrev pub bit : ℕ → ℕ → Bool
bit octet value = octet / value % 2 == 1

abbrev pub bit_value : Bool → ℕ → ℕ
bit_value b value = if b then value else 0
