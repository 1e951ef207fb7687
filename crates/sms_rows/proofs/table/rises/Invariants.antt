use Rattle.std.proofs.Common.{◌<◌, ◌≤◌}
use Rattle.std.specs.List.{AllAdjacentBelow}
use Rattle.sms_rows.proofs.table.rises.Given as goal

abbrev pub invariant-loop-i : goal.invariant-loop-i
invariant-loop-i g l = record {
  begun : 1 ≤ l.i;
  rising : AllAdjacentBelow (λ x y. g.T.Row.key x < g.T.Row.key y) l.rows l.i;
}
