use Rattle.std.proofs.Common.{◌≡◌, drop}
use Rattle.sms_handset_rows.specs.inbox.Groups.{is_among}
use Rattle.sms_handset_rows.specs.outbox.References.{held_message_references}
use Rattle.sms_handset_rows.proofs.outbox.sound_outbox.holds_message_reference.Given as goal

abbrev pub invariant-loop-entry : goal.invariant-loop-entry
invariant-loop-entry l = is_among l.reference (held_message_references (drop l.entry-index l.outbox)) ≡ is_among l.reference (held_message_references l.outbox)
