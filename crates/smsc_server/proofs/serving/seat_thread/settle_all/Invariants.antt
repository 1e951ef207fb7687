use Rattle.std.proofs.Common.{◌≡◌, ◌<◌, ◌++◌, ℕ, List, length, slice_get, Option, Some}
use Rattle.std.specs.Vec.Iter.{into_iter_items}
use Rattle.sms_keeper.specs.History.{for_seat, work}
use Rattle.sms_keeper.specs.Keeping.{given_by, ran_by}
use Rattle.sms_keeper.specs.Seating.{IsUnchanged}
use Rattle.smsc_arrivals.specs.Ways.{IsSameGiver, given_by as items_given, made_by, settled_at}
use Rattle.smsc_arrivals.specs.declared.arrival.Arrival.{Arrival}
use Rattle.smsc_server.specs.serving.Connections.{Admitted}
use Rattle.smsc_server.specs.serving.Entering.{arrivals_among}
use Rattle.smsc_server.specs.serving.SeatThreads.{HaveAdmitted}
use Rattle.smsc_server.specs.serving.Sittings.{SeatDid}
use Rattle.smsc_server.proofs.serving.seat_thread.settle_all.Given as goal

abbrev pub invariant-loop-thread : goal.invariant-loop-thread
invariant-loop-thread g l = record {
  keeper : IsUnchanged l.fn.keeper l.keeper;
  split : l.yielded ++ into_iter_items l.thread-iterator ≡ l.fn.threads.items;
  same : IsSameGiver l.fn.giver l.giver;
  made : made_by l.giver ≡ made_by l.fn.giver;
  given : items_given l.giver ≡ items_given l.fn.giver;
  count : length (settled_at l.giver) ≡ length l.yielded;
  did :
      (n : ℕ) → n < length l.yielded → (took : List (Option (Arrival g.row.S.Denot))) × (slice_get (settled_at l.giver) n ≡ Some took)
      × ((admitted : Admitted) → HaveAdmitted admitted l.fn.threads.items
      → SeatDid g.S.Read.remaining g.S.Write.contents admitted (for_seat n (work (ran_by l.fn.keeper))) (given_by l.fn.keeper n) (arrivals_among took));
}
