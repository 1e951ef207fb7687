use Rattle.std.proofs.Common.{◌≡◌}
use Rattle.sms_handset_draft.specs.Outbox.{lapse_rows}
use Rattle.sms_handset_draft.proofs.draft.Draft.lapse_rows.Given as goal

abbrev pub invariant-loop-entry : goal.invariant-loop-entry
invariant-loop-entry l = lapse_rows l.entry-iterator.rest.items l.self ≡ lapse_rows l.initial.entry-iterator.rest.items l.initial.self
