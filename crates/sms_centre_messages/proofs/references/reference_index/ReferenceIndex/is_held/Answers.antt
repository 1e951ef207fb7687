use Rattle.std.proofs.Common.{ℕ, nat_lt, sym, ◌∙◌, ap}
use Rattle.std.proofs.lemmas.Bool.{le-ltb, lt-ltb}
use Rattle.sms_centre_messages.specs.declared.references.message_ends.MessageEnds.{MessageEnds}
use Rattle.sms_centre_messages.specs.references.ReferenceIndex.{ReferenceIndexOf}
use Rattle.sms_centre_messages.specs.references.Counts.{counted}
use Rattle.sms_centre_messages.specs.references.Keys.{key_of}
use Rattle.sms_centre_messages.proofs.references.Answering.{held_answer, held_barred}
use Rattle.sms_centre_messages.proofs.references.reference_index.ReferenceIndex.is_held.Goals as goal

pub returns-then-of-gt0 : goal.returns-then-of-gt0
returns-then-of-gt0 c = λ bs ms ps h.
    held_barred c.args.self.now bs ms ps h c.args.source.now c.args.handset.now c.args.reference
    (sym (ap (λ (n : ℕ). nat_lt 0 n) (c.of.ensures ∙ ap (λ (key : MessageEnds). counted key c.self.inside.held_bars) c.of-key.ensures
    ∙ ap (λ (k : ReferenceIndexOf). counted (key_of c.args.source.now c.args.handset.now c.args.reference) k.held_bars) c.self.view_is)) ∙ lt-ltb 0 c.of.result c.if-of-gt0.true)

pub returns : goal.returns
returns c = λ bs ms ps h.
    ap (λ (n : ℕ). nat_lt 0 n) (c.of-2.ensures ∙ ap (λ (key : MessageEnds). counted key c.self.inside.held) c.of-key.ensures
    ∙ ap (λ (k : ReferenceIndexOf). counted (key_of c.args.source.now c.args.handset.now c.args.reference) k.held) c.self.view_is)
    ∙ held_answer c.args.self.now bs ms ps h c.args.source.now c.args.handset.now c.args.reference
    (sym (ap (λ (n : ℕ). nat_lt 0 n) (c.of.ensures ∙ ap (λ (key : MessageEnds). counted key c.self.inside.held_bars) c.of-key.ensures
    ∙ ap (λ (k : ReferenceIndexOf). counted (key_of c.args.source.now c.args.handset.now c.args.reference) k.held_bars) c.self.view_is)) ∙ le-ltb 0 c.of.result c.if-of-gt0.false)
