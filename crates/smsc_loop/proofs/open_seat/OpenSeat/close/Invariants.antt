use Rattle.std.proofs.Common.{◌≡◌, false}
use Rattle.sms_seats.specs.Jobs.{has_end}
use Rattle.sms_seats.specs.Seats.{IsSameSeat, put_by, taken_by}
use Rattle.smsc_loop.specs.Emptying.{Drops}
use Rattle.smsc_loop.proofs.open_seat.OpenSeat.close.Given as goal

abbrev pub invariant-loop : goal.invariant-loop
invariant-loop g l = record {
  is_open : has_end (put_by l.seat) ≡ false;
  seat : IsSameSeat l.fn.self.seat l.seat;
  put : put_by l.seat ≡ put_by l.fn.self.seat;
  taken : Drops (taken_by l.fn.self.seat) (taken_by l.seat);
}
