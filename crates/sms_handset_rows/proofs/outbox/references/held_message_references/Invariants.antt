use Rattle.std.proofs.Common.{◌≡◌, ◌++◌, drop}
use Rattle.sms_handset_rows.specs.outbox.References.{held_message_references}
use Rattle.sms_handset_rows.proofs.outbox.references.held_message_references.Given as goal

abbrev pub invariant-loop-view : goal.invariant-loop-view
invariant-loop-view l = l.held ++ held_message_references (drop l.view-index l.outbox) ≡ held_message_references l.outbox
