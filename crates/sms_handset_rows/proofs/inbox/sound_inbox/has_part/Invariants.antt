use Rattle.std.proofs.Common.{◌≡◌, drop}
use Rattle.sms_handset_rows.specs.inbox.Groups.{is_among, members, part_numbers}
use Rattle.sms_handset_rows.proofs.inbox.sound_inbox.has_part.Given as goal

abbrev pub invariant-loop-entry : goal.invariant-loop-entry
invariant-loop-entry l = is_among l.number (part_numbers (members l.group (drop l.entry-index l.entries))) ≡ is_among l.number (part_numbers (members l.group l.entries))
