use Rattle.std.proofs.Common.{ℕ, nat_lt, ◌∙◌, ap}
use Rattle.sms_centre_messages.specs.declared.references.message_ends.MessageEnds.{MessageEnds}
use Rattle.sms_centre_messages.specs.references.ReferenceIndex.{ReferenceIndexOf}
use Rattle.sms_centre_messages.specs.references.Counts.{counted}
use Rattle.sms_centre_messages.specs.references.Keys.{pair_of}
use Rattle.sms_centre_messages.proofs.references.Answering.{pending_answer}
use Rattle.sms_centre_messages.proofs.references.reference_index.ReferenceIndex.has_pending.Goals as goal

pub returns : goal.returns
returns c = λ bs ms ps h.
    ap (λ (n : ℕ). nat_lt 0 n) (c.of.ensures
    ∙ ap (λ (key : MessageEnds). counted key c.self.inside.pending) (c.of_digits.ensures ∙ ap (λ (n : ℕ). pair_of c.args.source.now c.args.handset.now n) c.from.ensures)
    ∙ ap (λ (k : ReferenceIndexOf). counted (pair_of c.args.source.now c.args.handset.now c.args.message_reference) k.pending) c.self.view_is)
    ∙ pending_answer c.args.self.now bs ms ps h c.args.source.now c.args.handset.now c.args.message_reference
