use Rattle.smsc_arrivals.specs.declared.doors.Doors.{Doors}
use Rattle.smsc_server.specs.serving.Entering.{HasSameSeats, HaveEntered}
use Rattle.smsc_server.proofs.serving.accepting.Acceptor.accept_so_many.Given as goal

abbrev pub invariant-loop : goal.invariant-loop
invariant-loop g l = record {
  entered : (start : Doors g.row.L.Denot) → HaveEntered g.L.Door.came start l.fn.self.entrance → HaveEntered g.L.Door.came start l.self.entrance;
  seats : HasSameSeats l.fn.self.entrance.giver l.self.entrance.giver;
}
