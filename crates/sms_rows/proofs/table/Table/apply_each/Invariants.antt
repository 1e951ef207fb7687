use Rattle.std.proofs.Common.{◌≡◌, ◌+◌, ◌≤◌, length}
use Rattle.std.specs.Vec.Iter.{into_iter_items}
use Rattle.sms_rows.specs.table.Table.{all_applied}
use Rattle.sms_rows.proofs.table.Table.apply_each.Given as goal

abbrev pub invariant-loop-change : goal.invariant-loop-change
invariant-loop-change g l = record {
  can_next : (goal.iterator-loop-change g).can_next l.change-iterator;
  is_finite : (goal.iterator-loop-change g).is_finite l.change-iterator;
  capacity : l.self.capacity ≡ l.initial.self.capacity;
  room : length l.self.rows + length (into_iter_items l.change-iterator) ≤ l.self.capacity;
  rows : all_applied g.T.Row.key (into_iter_items l.change-iterator) l.self.rows ≡ all_applied g.T.Row.key (into_iter_items l.initial.change-iterator) l.initial.self.rows;
}
