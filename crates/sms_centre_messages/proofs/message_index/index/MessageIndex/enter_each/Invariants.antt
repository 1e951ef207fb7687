use Rattle.std.proofs.Common.{List, [], take}
use Rattle.sms_centre_rows.specs.declared.messages.part.PartRow.{PartRow}
use Rattle.sms_centre_rows.specs.messages.Messages.{message_key}
use Rattle.sms_rows.specs.table.Table.{Rises}
use Rattle.sms_centre_messages.specs.message_index.MessageIndex.{Represents}
use Rattle.sms_centre_messages.proofs.message_index.index.MessageIndex.enter_each.Given as goal

abbrev pub invariant-loop-row : goal.invariant-loop-row
invariant-loop-row l = (ps : List PartRow) → Represents l.initial.self [] ps → Rises message_key l.messages → Represents l.self (take l.row-index l.messages) ps
