use Rattle.std.proofs.Common.{◌≡◌, map, take}
use Rattle.sms_centre_rows.specs.messages.PartEntries.{part_entry}
use Rattle.sms_centre_messages.proofs.message_index.recover.entries_of.Given as goal

abbrev pub invariant-loop-part : goal.invariant-loop-part
invariant-loop-part l = l.entries.items ≡ map part_entry (take l.part-index l.parts)
