use Rattle.std.proofs.Common.{◌≡◌, ℕ, drop, true, false}
use Rattle.std.specs.Prelude.{◌||◌, nat_lt}
use Rattle.sms_rows.specs.table.Table.{is_there}
use Rattle.sms_rows.proofs.table.range.range_of.Given as goal

-- a key that is neither in the range so far nor that of a row behind is none
abbrev pub invariant-loop-row : goal.invariant-loop-row
invariant-loop-row g l = (n : ℕ) → (nat_lt n l.low || nat_lt l.high n) ≡ true → is_there g.C.Row.key n (drop l.row-index l.rows) ≡ false
    → is_there g.C.Row.key n l.rows ≡ false
