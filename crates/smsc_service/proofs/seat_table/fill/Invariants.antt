use Rattle.std.proofs.Common.{◌≡◌, take}
use Rattle.smsc_service.specs.Room.{IsRoomy}
use Rattle.smsc_service.proofs.seat_table.fill.Given as goal

abbrev pub invariant-loop-row : goal.invariant-loop-row
invariant-loop-row g l = record {
  rows : l.table.rows ≡ take l.row-index l.rows;
  roomy : IsRoomy g.T.Row.key l.table;
}
