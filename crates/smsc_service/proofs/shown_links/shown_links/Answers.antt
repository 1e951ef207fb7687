use Rattle.std.proofs.Common.{◌≡◌, ◌≢◌, ◌⊎◌, inl, inr, ℕ, ◌+◌, ◌<◌, ◌≤◌, List, get_or, set, length, Option, None, refl, subst, ◌∙◌, arith}
use Rattle.std.proofs.Math.Nat.{eq-or-lt_of_le}
use Rattle.std.proofs.lemmas.Grind.{get_or-set_at}
use Rattle.std.proofs.lemmas.List.{get_or-set_other, length-set}
use Rattle.smsc_service.specs.Seats.{seats_in}
use Rattle.smsc_service.specs.ShownLinks.{figures_at}
use Rattle.smsc_service.proofs.shown_links.shown_links.Goals as goal

-- one more seat has what is put there
one_more : {A : Type 0} (shown : List (Option A)) (place : ℕ) (put : Option A) (wanted : ℕ → Option A) → place < length shown
    → ((seat : ℕ) → seat < place → get_or shown seat None ≡ wanted seat) → put ≡ wanted place
    → (seat : ℕ) → seat < place + 1 → get_or (set shown place put) seat None ≡ wanted seat
one_more shown place put wanted there so_far is seat below = elim (eq-or-lt_of_le {n = seat} {m = place} (omega arith)) [
  | inl same ↦ get_or-set_at shown place seat put None same there ∙ (is ∙ subst (λ (n : ℕ). wanted n ≡ wanted seat) same refl)
  | inr before ↦ get_or-set_other shown place seat put None (apart before) ∙ so_far seat before
] where
  apart : seat < place → seat ≢ place
  apart before same = omega (arith, same)

pub loop-seat-preserved : goal.loop-seat-preserved
loop-seat-preserved c =
    let shown = c.loop-seat.shown in
    let place = c.loop-seat.seat in
    let there : place < length shown = omega (arith, c.loop-seat.invariant.0) in (
      length-set shown place c.figures_at.result ∙ c.loop-seat.invariant.0,
      λ core represents. one_more shown place c.figures_at.result (λ seat. figures_at core (seats_in c.args.seat_map.now).links seat) there
          (c.loop-seat.invariant.1 core represents) (c.figures_at.ensures core represents),
    )
