use Rattle.std.proofs.Common.{List}
use Rattle.sms_centre_rows.specs.declared.messages.message.MessageRow.{MessageRow}
use Rattle.sms_centre_rows.specs.declared.messages.part.PartRow.{PartRow}
use Rattle.sms_centre_messages.specs.message_index.MessageIndex.{Represents}
use Rattle.sms_centre_messages.proofs.message_index.index.MessageIndex.drop_stale.Given as goal

abbrev pub invariant-loop-turn : goal.invariant-loop-turn
invariant-loop-turn l = (ms : List MessageRow) (ps : List PartRow) → Represents l.initial.self ms ps → Represents l.self ms ps
