use Rattle.std.proofs.Common.{ℕ, Option, sym, ◌∙◌, ap}
use Rattle.sms_centre_rows.specs.messages.SplitReferences.{held_references, is_taken}
use Rattle.sms_centre_messages.proofs.references.reference_index.ReferenceIndex.is_taken.Goals as goal

pub returns-in-Some : goal.returns-in-Some
returns-in-Some c = λ bs ms ps h.
    c.is_held.ensures bs ms ps h ∙ sym (ap (λ (o : Option ℕ). is_taken o (held_references c.args.source.now c.args.handset.now bs ms)) c.in-Some.is)
