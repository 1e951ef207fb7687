use Rattle.std.proofs.Common.{◌≡◌, ◌-◌, List, length}
use Rattle.sms_centre_rows.specs.declared.messages.bar.BarRow.{BarRow}
use Rattle.sms_centre_rows.specs.declared.messages.message.MessageRow.{MessageRow}
use Rattle.sms_centre_rows.specs.declared.messages.part.PartRow.{PartRow}
use Rattle.sms_centre_rows.specs.messages.Messages.{message_key}
use Rattle.sms_rows.specs.table.Table.{Rises}
use Rattle.sms_centre_messages.specs.references.ReferenceIndex.{Represents, SameBars}
use Rattle.sms_centre_messages.specs.references.Moves.{AreMoves, AreRemovals, HasRoomFor}
use Rattle.sms_centre_messages.proofs.references.Adopted.{LeadsTo}
use Rattle.sms_centre_messages.proofs.references.reference_index.ReferenceIndex.apply_all.Given as goal

abbrev pub invariant-loop-change : goal.invariant-loop-change
invariant-loop-change l =
    HasRoomFor (length l.messages - l.change-index) l.parts l.self
    × (((bs : List BarRow) (ms : List MessageRow) (ps : List PartRow) → Represents l.initial.self bs ms ps → Rises message_key ms → AreMoves l.messages ms ps → LeadsTo l.messages l.change-index l.self bs ms ps)
    × ((AreRemovals l.messages → l.self ≡ l.initial.self) × SameBars l.initial.self l.self))
