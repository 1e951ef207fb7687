use Rattle.std.proofs.Common.{◌≡◌, ◌∷◌, ◌+◌, List, ℕ, suc, add-one, Some, subst, sym, ◌∙◌, ap, drop, drop-cons, bytes_eq}
use Rattle.std.proofs.lemmas.Bool.{cond-true, cond-false}
use Rattle.smsc_service.specs.declared.seat_map.LinkSeat.{LinkSeat}
use Rattle.smsc_service.specs.Seats.{seat_of}
use Rattle.smsc_service.proofs.seat_map.SeatMap.seat_of.Goals as goal

pub returns-then-is_same : goal.returns-then-is_same
returns-then-is_same c =
    let items = c.as_slice-link-items.result.now in
    let i = c.loop-link.link-index in
    let link = c.link-item.result in
    let rest : drop i items ≡ link ∷ drop (i + 1) items = drop-cons items i link c.loop-link-test.true ∙ ap (λ (x : LinkSeat). x ∷ drop (suc i) items) (sym c.link-item.is) ∙ ap (λ (n : ℕ). link ∷ drop n items) (sym (add-one i)) in
    let here = subst (λ (xs : List LinkSeat). drop i xs ≡ link ∷ drop (i + 1) xs) c.as_slice-link-items.ensures.rows rest in
    sym (cond-true (bytes_eq link.handset c.args.handset) (Some link.seat) (seat_of c.args.handset (drop (i + 1) c.args.self.now.links)) (sym c.is_same.ensures ∙ c.if-is_same.true))
    ∙ ap (λ (xs : List LinkSeat). seat_of c.args.handset xs) (sym here) ∙ c.loop-link.invariant

pub loop-link-preserved : goal.loop-link-preserved
loop-link-preserved c =
    let items = c.as_slice-link-items.result.now in
    let i = c.loop-link.link-index in
    let link = c.link-item.result in
    let rest : drop i items ≡ link ∷ drop (i + 1) items = drop-cons items i link c.loop-link-test.true ∙ ap (λ (x : LinkSeat). x ∷ drop (suc i) items) (sym c.link-item.is) ∙ ap (λ (n : ℕ). link ∷ drop n items) (sym (add-one i)) in
    let here = subst (λ (xs : List LinkSeat). drop i xs ≡ link ∷ drop (i + 1) xs) c.as_slice-link-items.ensures.rows rest in
    sym (cond-false (bytes_eq link.handset c.args.handset) (Some link.seat) (seat_of c.args.handset (drop (i + 1) c.args.self.now.links)) (sym c.is_same.ensures ∙ c.if-is_same.false))
    ∙ ap (λ (xs : List LinkSeat). seat_of c.args.handset xs) (sym here) ∙ c.loop-link.invariant
