use Rattle.std.proofs.Common.{◌≡◌}
use Rattle.sms_seats.specs.Seats.{put_by, taken_by, IsSameSeat}
use Rattle.sms_seats.proofs.seat.Seat.close.Given as goal

abbrev pub invariant-loop : goal.invariant-loop
invariant-loop g l = record {
  seat : IsSameSeat l.fn.self l.self;
  taken : taken_by l.self ≡ taken_by l.fn.self;
  put : put_by l.self ≡ put_by l.fn.self;
}
