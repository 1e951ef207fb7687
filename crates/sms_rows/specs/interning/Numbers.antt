-- The characters of a number.
use Rattle.std.specs.Prelude.{ℕ, List}
use Rattle.sms_rows.specs.declared.interning.number.Number.{Number}

abbrev pub digits_in : Number → List ℕ
digits_in n = n.digits
