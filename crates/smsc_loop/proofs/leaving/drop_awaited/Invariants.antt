use Rattle.std.proofs.Common.{◌≡◌}
use Rattle.sms_seats.specs.Seats.{IsSameSeat, put_by, taken_by}
use Rattle.smsc_loop.specs.Emptying.{Drops}
use Rattle.smsc_loop.proofs.leaving.drop_awaited.Given as goal

abbrev pub invariant-loop : goal.invariant-loop
invariant-loop g l =
    Drops (taken_by l.fn.seat.seat) (taken_by l.seat.seat) × (put_by l.seat.seat ≡ put_by l.fn.seat.seat) × IsSameSeat l.fn.seat.seat l.seat.seat
