use Rattle.std.proofs.Common.{◌≡◌, ◌++◌, OnOk}
use Rattle.std.specs.Arc.{arc_value}
use Rattle.std.specs.Vec.Iter.{into_iter_items}
use Rattle.smsc_server.specs.serving.Connections.{admits}
use Rattle.smsc_server.specs.serving.SeatThreads.{HaveStarted}
use Rattle.smsc_server.proofs.serving.server.Server.start_seats.Given as goal

abbrev pub invariant-loop-seat : goal.invariant-loop-seat
invariant-loop-seat g l = record {
  split : l.yielded ++ into_iter_items l.seat-iterator ≡ l.fn.seats.items;
  started : OnOk l.started (HaveStarted (admits (arc_value l.fn.shared.accounts) (arc_value l.fn.shared.access)) l.giver l.yielded l.self.seats.items);
}
