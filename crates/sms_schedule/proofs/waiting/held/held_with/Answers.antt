use Rattle.std.proofs.Common.{◌≡◌, ◌+◌, ◌<◌, ◌||◌, ◌==◌, true, Some, [], ◌∷◌, ◌++◌, take, get_or, length, ap, sym, ◌∙◌, arith, ⊎_elim}
use Rattle.std.proofs.lemmas.Bool.{cases_eq}
use Rattle.std.proofs.lemmas.Bool.Decides.{nat_tests}
use Rattle.std.proofs.lemmas.List.{take_more}
use Rattle.sms_centre_rows.specs.waiting.References.{is_held}
use Rattle.sms_centre_rows.specs.declared.waiting.queued_part.QueuedPart.{QueuedPart}
use Rattle.sms_schedule.proofs.waiting.Holding.{is_held_behind}
use Rattle.sms_schedule.proofs.waiting.held.held_with.Goals as goal

pub loop-queued-preserved : goal.loop-queued-preserved
loop-queued-preserved c others held r low =
    let ls = c.args.waiting.now in
    let i = c.loop-queued.queued-index in
    let queued = c.queued-item.result in
    let inside : i < length ls = omega (arith, c.loop-queued-test.true) in
    let item : get_or ls i queued ≡ queued = sym c.queued-item.is in
    let next : is_held r (others ++ take (i + 1) ls) ≡ (is_held r (others ++ take i ls) || queued.reference == r) =
    ap (λ xs. is_held r (others ++ xs)) (take_more ls i queued inside) ∙ ap (λ (l : QueuedPart). is_held r (others ++ (take i ls ++ l ∷ []))) item ∙ is_held_behind r others (take i ls) queued in
    ⊎_elim
    (λ here.
    let yes : (is_held r (others ++ take i ls) || queued.reference == r) ≡ true = grind (arith, nat_tests, here) in
    ap (λ n. Rattle.std.specs.Prelude.slice_get c.hold.new.held n) (sym here) ∙ c.hold.ensures.this ∙ ap (λ b. Some b) (sym (next ∙ yes)))
    (λ other.
    let same : (is_held r (others ++ take i ls) || queued.reference == r) ≡ is_held r (others ++ take i ls) = grind (arith, nat_tests, other) in
    c.hold.ensures.others r (λ e. other (sym e)) ∙ c.loop-queued.invariant others held r low ∙ ap (λ b. Some b) (sym (next ∙ same)))
    (cases_eq queued.reference r)
