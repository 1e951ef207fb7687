use Rattle.std.proofs.Common.{◌≡◌, ℕ, ◌+◌, ◌-◌, ◌%◌, ◌++◌, None, refl, sym, ◌∙◌, ap, arith}
use Rattle.sms_centre_rows.specs.messages.SplitReferences.{all_references, first_free_split, held_references, last_split, own_references, start_after}
use Rattle.sms_centre_messages.specs.declared.references.message_ends.MessageEnds.{MessageEnds}
use Rattle.sms_centre_messages.specs.references.ReferenceIndex.{ReferenceIndexOf}
use Rattle.sms_centre_messages.specs.references.Counts.{counted}
use Rattle.sms_centre_messages.specs.references.Keys.{key_of}
use Rattle.sms_centre_messages.proofs.references.Answering.{free_behind, free_here, none_free, start_answer}
use Rattle.sms_centre_messages.proofs.references.reference_index.ReferenceIndex.next_split.Goals as goal

pub loop-turn-init : goal.loop-turn-init
loop-turn-init c = λ bs ms ps h.
    let source = c.args.source.now in
    let handset = c.args.handset.now in
    let barred = held_references source handset bs ms ++ own_references source handset bs ms ps in
    let all : c.turns-turns.result - 0 ≡ c.turns-turns.result = omega arith in
    let turns : c.turns-turns.result - 0 ≡ all_references = all ∙ c.turns-turns.ensures in
    let start : c.start_after-reference.result ≡ start_after (last_split source handset None ms) =
    c.start_after-reference.ensures
    ∙ ap (λ (n : ℕ). n % 65536) (c.of-2.ensures ∙ ap (λ (key : MessageEnds). counted key c.self.inside.last) c.of.ensures ∙ ap (λ (k : ReferenceIndexOf). counted (key_of source handset 0) k.last) c.self.view_is)
    ∙ start_answer c.args.self.now bs ms ps h source handset in
    ap (λ (n : ℕ). first_free_split n c.start_after-reference.result barred) turns ∙ ap (λ (n : ℕ). first_free_split all_references n barred) start

pub returns-then-not-is_barred : goal.returns-then-not-is_barred
returns-then-not-is_barred c = λ bs ms ps h.
    sym (free_here (c.turns-turns.result - c.loop-turn._turn) c.loop-turn.reference (held_references c.args.source.now c.args.handset.now bs ms ++ own_references c.args.source.now c.args.handset.now bs ms ps)
    (omega (arith, c.loop-turn-test.true)) (sym (c.is_barred.ensures bs ms ps h) ∙ c.if-not-is_barred.true))
    ∙ c.loop-turn.invariant bs ms ps h

pub loop-turn-preserved : goal.loop-turn-preserved
loop-turn-preserved c = λ bs ms ps h.
    sym (free_behind (c.turns-turns.result - c.loop-turn._turn) (c.turns-turns.result - (c.loop-turn._turn + 1)) c.loop-turn.reference ((c.loop-turn.reference + 1) % 65536)
    (held_references c.args.source.now c.args.handset.now bs ms ++ own_references c.args.source.now c.args.handset.now bs ms ps)
    (omega (arith, c.loop-turn-test.true)) refl (sym (c.is_barred.ensures bs ms ps h) ∙ c.if-not-is_barred.false))
    ∙ c.loop-turn.invariant bs ms ps h

pub returns : goal.returns
returns c = λ bs ms ps h.
    sym (none_free (c.turns-turns.result - c.loop-turn._turn) c.loop-turn.reference (held_references c.args.source.now c.args.handset.now bs ms ++ own_references c.args.source.now c.args.handset.now bs ms ps)
    (omega (arith, c.loop-turn-test.false)))
    ∙ c.loop-turn.invariant bs ms ps h
