use Rattle.std.proofs.Common.{ℕ, subst}
use Rattle.sms_keeper.specs.Seating.{IsNewSeat}
use Rattle.sms_keeper.proofs.Histories.{seat_stays}
use Rattle.sms_hub.proofs.hub.Hub.new.Goals as goal

pub returns-clause-first : goal.returns-clause-first
returns-clause-first g c = let P : ℕ → Type 0 = λ n. IsNewSeat c.add_seat.new.self n c.in_ok-first.first in let h = c.in_ok-second.ensures in
    seat_stays c.add_seat.new.self c.add_seat-2.new.self 0 c.in_ok-first.first (h.others c.in_ok-first.first) h.slots (subst P c.in_ok-keeper.ensures.new.seats c.in_ok-first.ensures.seat)
