use Rattle.std.proofs.Common.{sym, ◌∙◌}
use Rattle.sms_seats.specs.Seats.{number_of}
use Rattle.sms_keeper.specs.Keeping.{given_by, ran_by}
use Rattle.smsc_server.specs.serving.SeatThreads.{seat_in}
use Rattle.smsc_server.proofs.serving.Sat.{seat_did}
use Rattle.smsc_server.proofs.serving.seat_thread.settle.Goals as goal

pub settle-requires-clause-way : goal.settle-requires-clause-way
settle-requires-clause-way g c = c.join-seat.ensures.1.queue ∙ c.requires.way

pub settle-requires-clause-next : goal.settle-requires-clause-next
settle-requires-clause-next g c = c.join-seat.ensures.1.seat ∙ c.requires.next

pub returns-clause-did : goal.returns-clause-did
returns-clause-did g c = let s = c.join-seat.ensures in let h = c.take_back-rest.ensures in (
  _,
  c.settle.ensures.settled,
  λ closed.
      seat_did g.S.Read.remaining g.S.Write.contents _ (number_of (seat_in c.args.thread)) (number_of c.join-seat.result.seat) c.join-seat.result.seat
      (ran_by c.args.keeper.now) (given_by c.args.keeper.now) _ s.0.number s.2 h.run h.taken closed,
)
