use Rattle.std.proofs.Common.{◌≡◌, ℕ, ◌+◌, Option, None, sym, ◌∙◌, ap}
use Rattle.std.specs.Prelude.{◌==◌, not}
use Rattle.sms_centre_rows.specs.messages.SplitReferences.{last_split}
use Rattle.sms_centre_spec.specs.forgetting.Forgetting.{is_split_on}
use Rattle.sms_centre_messages.specs.declared.references.message_ends.MessageEnds.{MessageEnds}
use Rattle.sms_centre_messages.specs.references.ReferenceIndex.{ReferenceIndexOf}
use Rattle.sms_centre_messages.specs.references.Counts.{counted}
use Rattle.sms_centre_messages.specs.references.Keys.{key_of}
use Rattle.sms_centre_messages.proofs.references.Forgotten.{other_last}
use Rattle.sms_centre_messages.proofs.references.reference_index.ReferenceIndex.leaves_split.Goals as goal

pub returns-in-Some : goal.returns-in-Some
returns-in-Some c = λ bs ms ps h.
    let m = c.args.message.now in
    let count = c.of-last.ensures ∙ ap (λ (key : MessageEnds). counted key c.self.inside.last) c.of.ensures
    ∙ ap (λ (k : ReferenceIndexOf). counted (key_of m.source m.handset 0) k.last) c.self.view_is ∙ h.last m.source m.handset in
    ap (λ (n : ℕ). not (c.of-last.result == n + 1)) c.from.ensures
    ∙ ap (λ (n : ℕ). not (n == c.in-Some.reference + 1)) count
    ∙ other_last c.in-Some.reference (last_split m.source m.handset None ms)
    ∙ ap (λ (o : Option ℕ). is_split_on o (last_split m.source m.handset None ms)) (sym c.in-Some.is)

pub returns-in-None : goal.returns-in-None
returns-in-None c = λ bs ms ps h.
    let m = c.args.message.now in
    ap (λ (o : Option ℕ). is_split_on o (last_split m.source m.handset None ms)) (sym c.in-None.is)
