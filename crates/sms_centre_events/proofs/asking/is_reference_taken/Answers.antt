use Rattle.std.proofs.Common.{ℕ, Option, ◌∙◌, ap}
use Rattle.sms_centre_rows.specs.messages.SplitReferences.{held_references, is_taken}
use Rattle.sms_centre_events.proofs.asking.is_reference_taken.Goals as goal

pub returns : goal.returns
returns c = λ bs ms ps h.
    let u = c.args.submission.now in
    c.is_taken.ensures bs ms ps h ∙ ap (λ (o : Option ℕ). is_taken o (held_references u.source u.handset bs ms)) c.own_reference-reference.ensures
