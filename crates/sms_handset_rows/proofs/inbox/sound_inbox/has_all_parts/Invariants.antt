use Rattle.std.proofs.Common.{◌≡◌, true}
use Rattle.sms_handset_rows.specs.inbox.Groups.{all_numbers, members, part_numbers}
use Rattle.sms_handset_rows.proofs.inbox.sound_inbox.has_all_parts.Given as goal

abbrev pub invariant-loop-below : goal.invariant-loop-below
invariant-loop-below l = all_numbers l.below (part_numbers (members l.group l.entries)) ≡ true
