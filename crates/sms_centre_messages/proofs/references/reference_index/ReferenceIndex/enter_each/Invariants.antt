use Rattle.std.proofs.Common.{◌<◌, [], length, take}
use Rattle.sms_centre_rows.specs.messages.Messages.{message_key}
use Rattle.sms_rows.specs.table.Table.{Rises}
use Rattle.sms_centre_messages.specs.references.ReferenceIndex.{Represents}
use Rattle.sms_centre_messages.proofs.references.reference_index.ReferenceIndex.enter_each.Given as goal

abbrev pub invariant-loop-row : goal.invariant-loop-row
invariant-loop-row l = Represents l.initial.self [] [] [] → Rises message_key l.rows → length l.rows < 18446744073709551615 → Represents l.self [] (take l.row-index l.rows) []
