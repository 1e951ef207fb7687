use Rattle.std.proofs.Common.{◌≡◌, ◌++◌, List, None, drop}
use Rattle.sms_centre_messages.specs.message_index.Expiring.{confirmed}
use Rattle.sms_centre_messages.specs.message_index.MessageIndex.{Represents}
use Rattle.sms_centre_rows.specs.declared.messages.message.MessageRow.{MessageRow}
use Rattle.sms_centre_rows.specs.declared.messages.part.PartRow.{PartRow}
use Rattle.sms_centre_messages.proofs.message_index.index.MessageIndex.confirm_each.Given as goal

abbrev pub invariant-loop-number : goal.invariant-loop-number
invariant-loop-number l = (ms : List MessageRow) (ps : List PartRow) → Represents l.self ms ps
    → l.ids.items ++ confirmed l.now ms l.last (drop l.number-index l.numbers) ≡ l.initial.ids.items ++ confirmed l.now ms None l.numbers
