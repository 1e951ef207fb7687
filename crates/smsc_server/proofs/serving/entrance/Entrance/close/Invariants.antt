use Rattle.smsc_arrivals.specs.declared.doors.Doors.{Doors}
use Rattle.smsc_server.specs.serving.Entering.{HasSameSeats, HaveEntered}
use Rattle.smsc_server.proofs.serving.entrance.Entrance.close.Given as goal

abbrev pub invariant-loop : goal.invariant-loop
invariant-loop g l = record {
  entered : (start : Doors g.row.L.Denot) → HaveEntered g.L.Door.came start l.fn.self → HaveEntered g.L.Door.came start l.self;
  seats : HasSameSeats l.fn.self.giver l.self.giver;
}
