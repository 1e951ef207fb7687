use Rattle.std.proofs.Common.{◌≡◌, drop, map}
use Rattle.sms_rows.specs.table.Table.{without_all}
use Rattle.sms_rows.proofs.table.rolling.RollingTable.remove_each.Given as goal

abbrev pub invariant-loop-other : goal.invariant-loop-other
invariant-loop-other g l = record {
  capacity : l.self.capacity ≡ l.initial.self.capacity;
  rows : without_all g.T.Row.key (map g.C.Row.key (drop l.other-index l.others)) l.self.rows ≡ without_all g.T.Row.key (map g.C.Row.key l.others) l.initial.self.rows;
}
