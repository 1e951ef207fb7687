use Rattle.std.proofs.Common.{[], List, take}
use Rattle.sms_centre_rows.specs.declared.messages.message.MessageRow.{MessageRow}
use Rattle.sms_centre_rows.specs.declared.messages.part.PartRow.{PartRow}
use Rattle.sms_centre_messages.specs.references.ReferenceIndex.{Represents}
use Rattle.sms_centre_messages.proofs.references.reference_index.ReferenceIndex.bar_each.Given as goal

abbrev pub invariant-loop-bar : goal.invariant-loop-bar
invariant-loop-bar l = (ms : List MessageRow) (ps : List PartRow) → Represents l.initial.self [] ms ps → Represents l.self (take l.bar-index l.bars) ms ps
