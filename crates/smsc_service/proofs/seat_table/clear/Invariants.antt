use Rattle.std.proofs.Common.{◌≤◌}
use Rattle.std.specs.List.{AllByRecursion}
use Rattle.smsc_service.specs.Room.{IsRoomy}
use Rattle.smsc_service.proofs.seat_table.clear.Given as goal

abbrev pub invariant-loop-seat : goal.invariant-loop-seat
invariant-loop-seat g l = record {
  from : AllByRecursion (λ (row : g.row.T.Denot). l.seat ≤ g.T.Row.key row) l.table.rows;
  roomy : IsRoomy g.T.Row.key l.table;
}
