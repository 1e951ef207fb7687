use Rattle.std.proofs.Common.{arith, ◌≡◌, ◌+◌, ◌∙◌, ℕ, ⊎_elim, subst, sym, ap, slice_get}
use Rattle.sms_keeper.specs.declared.keeper.Keeper.{Keeper}
use Rattle.sms_seats.specs.declared.seat.Seat.{Seat}
use Rattle.sms_keeper.specs.Keeping.{seats_of}
use Rattle.sms_keeper.specs.Seating.{IsNewKeeper, IsNewSeat}
use Rattle.sms_seats.proofs.Places.{length_snoc, slice_get_snoc}
use Rattle.sms_keeper.proofs.Histories.{seat_stays}
use Rattle.sms_hub.proofs.hub.Hub.with_seats.Goals as goal

pub loop-made-preserved : goal.loop-made-preserved
loop-made-preserved g c = let l = c.loop-made.invariant in let h = c.in_ok-add_seat.ensures in let n = seats_of c.loop-made.keeper in
    let K : Keeper g.row.J.Denot g.row.O.Denot → ℕ → Type 0 = λ k m. IsNewKeeper m k in let Z : Seat g.row.J.Denot g.row.O.Denot × ℕ → Type 0 = λ p. IsNewSeat c.add_seat.new.self p.1 p.0 in
    let same : n ≡ c.loop-made.made = l.keeper.seats in record {
      keeper = subst (K c.add_seat.new.self) (ap (λ m. m + 1) same) (h.keeper (subst (K c.loop-made.keeper) (sym same) l.keeper));
      slots = h.slots ∙ l.slots;
      count = length_snoc _ _ _ c.push_reserved.ensures.items ∙ ap (λ m. m + 1) l.count;
      room = (let a = l.room in let b = c.push_reserved.ensures.capacity in omega arith);
      seats = λ k s e. ⊎_elim (λ old. seat_stays c.loop-made.keeper c.add_seat.new.self k s (h.others s) h.slots (l.seats k s old)) (λ p. let to : n ≡ k = same ∙ sym l.count ∙ sym p.0 in subst Z (λ i. (p.1 i, to i)) h.seat)
          (slice_get_snoc _ _ _ k (ap (λ x. slice_get x k) (sym c.push_reserved.ensures.items) ∙ e));
    }
