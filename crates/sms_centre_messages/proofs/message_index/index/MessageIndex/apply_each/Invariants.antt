use Rattle.std.proofs.Common.{◌≡◌, List, length}
use Rattle.std.specs.Vec.Iter.{into_iter_items}
use Rattle.sms_centre_rows.specs.declared.messages.message.MessageRow.{MessageRow}
use Rattle.sms_centre_rows.specs.declared.messages.part.PartRow.{PartRow}
use Rattle.sms_centre_rows.specs.messages.Messages.{message_key}
use Rattle.sms_rows.specs.table.Table.{all_applied}
use Rattle.sms_centre_messages.specs.message_index.MessageIndex.{HasRoomFor, Represents}
use Rattle.sms_centre_messages.proofs.message_index.index.MessageIndex.apply_each.Given as goal

abbrev pub invariant-loop-change : goal.invariant-loop-change
invariant-loop-change l = record {
  can_next : goal.iterator-loop-change.can_next l.change-iterator;
  is_finite : goal.iterator-loop-change.is_finite l.change-iterator;
  room : HasRoomFor (length (into_iter_items l.change-iterator)) l.self;
  holds : (ms : List MessageRow) (ps : List PartRow) → Represents l.initial.self ms ps
      → (rows : List MessageRow) × (Represents l.self rows ps) × (all_applied message_key (into_iter_items l.change-iterator) rows ≡ all_applied message_key (into_iter_items l.initial.change-iterator) ms);
}
