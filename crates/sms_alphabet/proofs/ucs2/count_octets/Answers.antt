use Rattle.std.proofs.Common.{◌≡◌, ◌++◌, ◌∙◌, ℕ, List, [], length, sym, ap, subst, refl, arith}
use Rattle.std.proofs.lemmas.List.{length-append}
use Rattle.sms_alphabet.specs.Ucs2.{octets_for}
use Rattle.sms_alphabet.proofs.Characters.{Along, along_start, along_turn, along_end, along_within, octets_bound}
use Rattle.sms_alphabet.proofs.ucs2.count_octets.Goals as goal

pub loop-character-init : goal.loop-character-init
loop-character-init c =
    let rest : c.into_iter-character-iterator.result.rest.now ≡ c.args.text.now = cc in
    ([], refl, subst (λ (bs : List ℕ). Along octets_for c.args.text.now bs []) (sym rest) (along_start octets_for c.args.text.now c.utf8.text))

pub overflow_add-count : goal.overflow_add-count
overflow_add-count c =
    let l = c.loop-character in
    let fits = along_within octets_for c.args.text.now _ l.invariant.0 c.in-Some.character _ l.invariant.2 c.in-Some.ensures.steps.0 in
    let bound = octets_bound c.args.text.now c.utf8.text in
    omega (arith, l.invariant.1)

pub loop-character-preserved : goal.loop-character-preserved
loop-character-preserved c =
    let l = c.loop-character in
    (l.invariant.0 ++ octets_for c.in-Some.character, omega (arith, l.invariant.1, length-append l.invariant.0 (octets_for c.in-Some.character)), along_turn octets_for c.args.text.now _ l.invariant.0 c.in-Some.character _ l.invariant.2 c.in-Some.ensures.steps.0)

pub returns : goal.returns
returns c =
    let l = c.loop-character in
    l.invariant.1 ∙ ap length (along_end octets_for c.args.text.now _ l.invariant.0 l.invariant.2 c.in-None.ensures.steps.0.0)
