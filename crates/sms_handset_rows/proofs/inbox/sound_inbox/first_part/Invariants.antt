use Rattle.std.proofs.Common.{◌≡◌, drop}
use Rattle.sms_handset_rows.specs.inbox.Groups.{first_number, members}
use Rattle.sms_handset_rows.proofs.inbox.sound_inbox.first_part.Given as goal

abbrev pub invariant-loop-entry : goal.invariant-loop-entry
invariant-loop-entry l = first_number (members l.group (drop l.entry-index l.entries)) ≡ first_number (members l.group l.entries)
