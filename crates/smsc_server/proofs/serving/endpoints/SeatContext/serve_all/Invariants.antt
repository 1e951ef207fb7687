use Rattle.std.proofs.Common.{◌≡◌}
use Rattle.std.specs.Arc.{arc_value}
use Rattle.sms_seats.specs.Seats.{put_by, taken_by}
use Rattle.smsc_loop.specs.Owing.{IsCleared}
use Rattle.smsc_arrivals.specs.Ways.{IsSameTaker, taken_by as items_taken}
use Rattle.smsc_server.specs.serving.Connections.{admits}
use Rattle.smsc_server.specs.serving.Entering.{arrivals_among}
use Rattle.smsc_server.specs.serving.Sittings.{HaveSat}
use Rattle.smsc_server.proofs.serving.endpoints.SeatContext.serve_all.Given as goal

abbrev pub invariant-loop : goal.invariant-loop
invariant-loop g l = record {
  sat : HaveSat g.S.Read.remaining g.S.Write.contents (admits (arc_value l.fn.self.accounts) (arc_value l.fn.self.access)) l.fn.seat.seat l.seat.seat
      (arrivals_among (items_taken l.fn.taker)) (arrivals_among (items_taken l.taker));
  cleared : IsCleared (put_by l.seat.seat) (taken_by l.seat.seat);
  same : IsSameTaker l.fn.taker l.taker;
}
