use Rattle.std.proofs.Common.{◌≡◌, ◌+◌, ◌≤◌, length}
use Rattle.std.specs.Vec.Iter.{into_iter_items}
use Rattle.sms_rows.specs.table.Table.{all_applied}
use Rattle.sms_centre_rows.specs.messages.PartEntries.{entry_key}
use Rattle.sms_centre_messages.proofs.message_index.parts_draft.apply_each.Given as goal

abbrev pub invariant-loop-change : goal.invariant-loop-change
invariant-loop-change l = record {
  can_next : goal.iterator-loop-change.can_next l.change-iterator;
  is_finite : goal.iterator-loop-change.is_finite l.change-iterator;
  room : length l.table.rows + length (into_iter_items l.change-iterator) ≤ l.table.capacity;
  rows : all_applied entry_key (into_iter_items l.change-iterator) l.table.rows ≡ all_applied entry_key (into_iter_items l.initial.change-iterator) l.initial.table.rows;
}
