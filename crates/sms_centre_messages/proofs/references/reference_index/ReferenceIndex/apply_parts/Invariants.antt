use Rattle.std.proofs.Common.{◌≡◌, ◌-◌, List, length}
use Rattle.sms_centre_rows.specs.declared.messages.bar.BarRow.{BarRow}
use Rattle.sms_centre_rows.specs.declared.messages.message.MessageRow.{MessageRow}
use Rattle.sms_centre_rows.specs.declared.messages.part.PartRow.{PartRow}
use Rattle.sms_centre_rows.specs.messages.Messages.{message_key, part_key}
use Rattle.sms_rows.specs.table.Table.{Rises, all_applied}
use Rattle.sms_centre_messages.specs.references.ReferenceIndex.{Represents, SameBars}
use Rattle.sms_centre_messages.specs.references.Moves.{ArePartMoves, ArePartRemovals, HasRoomFor}
use Rattle.sms_centre_messages.proofs.references.Adopted.{PartsLeadTo}
use Rattle.sms_centre_messages.proofs.references.reference_index.ReferenceIndex.apply_parts.Given as goal

abbrev pub invariant-loop-revision : goal.invariant-loop-revision
invariant-loop-revision l =
    HasRoomFor 0 (length l.parts - l.revision-index) l.self
    × (((bs : List BarRow) (base ms : List MessageRow) (ps : List PartRow) → ms ≡ all_applied message_key l.messages base → Represents l.initial.self bs ms ps → Rises part_key ps → ArePartMoves l.messages l.parts ms ps
    → PartsLeadTo l.messages l.parts l.revision-index l.self bs ms ps)
    × ((ArePartRemovals l.parts → l.self ≡ l.initial.self) × SameBars l.initial.self l.self))
