use Rattle.std.proofs.Common.{◌≡◌, ◌+◌, ◌≤◌, length}
use Rattle.std.specs.Vec.Iter.{into_iter_items}
use Rattle.sms_centre_rows.specs.waiting.Revisions.{all_revised}
use Rattle.sms_store_memory.proofs.revising.revise_all.Given as goal

abbrev pub invariant-loop-revision : goal.invariant-loop-revision
invariant-loop-revision g l = record {
  can_next : (goal.iterator-loop-revision g).can_next l.revision-iterator;
  is_finite : (goal.iterator-loop-revision g).is_finite l.revision-iterator;
  capacity : l.table.capacity ≡ l.initial.table.capacity;
  room : length l.table.rows + length (into_iter_items l.revision-iterator) ≤ l.table.capacity;
  rows : all_revised g.T.Row.key g.T.Reaching.reaching (into_iter_items l.revision-iterator) l.table.rows ≡ all_revised g.T.Row.key g.T.Reaching.reaching (into_iter_items l.initial.revision-iterator) l.initial.table.rows;
}
