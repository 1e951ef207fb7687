use Rattle.std.proofs.Common.{[], take}
use Rattle.sms_centre_rows.specs.messages.Messages.{part_key}
use Rattle.sms_rows.specs.table.Table.{Rises}
use Rattle.sms_centre_messages.specs.references.ReferenceIndex.{AreFew, Represents}
use Rattle.sms_centre_messages.proofs.references.reference_index.ReferenceIndex.bring_each.Given as goal

abbrev pub invariant-loop-part : goal.invariant-loop-part
invariant-loop-part l = Represents l.initial.self [] l.messages.rows [] → Rises part_key l.parts → AreFew l.messages.rows l.parts → Represents l.self [] l.messages.rows (take l.part-index l.parts)
