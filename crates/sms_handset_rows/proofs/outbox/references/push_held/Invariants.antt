use Rattle.std.proofs.Common.{◌≡◌, ◌++◌, drop}
use Rattle.sms_handset_rows.specs.outbox.References.{held_by_entries}
use Rattle.sms_handset_rows.proofs.outbox.references.push_held.Given as goal

abbrev pub invariant-loop-view : goal.invariant-loop-view
invariant-loop-view l = l.held ++ held_by_entries (drop l.view-index l.outbox) ≡ l.initial.held ++ held_by_entries l.outbox
