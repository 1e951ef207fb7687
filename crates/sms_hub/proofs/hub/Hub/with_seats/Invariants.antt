use Rattle.std.proofs.Common.{◌≡◌, ◌≤◌, ℕ, Some, length, slice_get, vec_capacity}
use Rattle.sms_seats.specs.declared.seat.Seat.{Seat}
use Rattle.sms_keeper.specs.Keeping.{slots_in}
use Rattle.sms_keeper.specs.Seating.{IsNewKeeper, IsNewSeat}
use Rattle.sms_hub.proofs.hub.Hub.with_seats.Given as goal

abbrev pub invariant-loop-made : goal.invariant-loop-made
invariant-loop-made g l = record {
  keeper : IsNewKeeper l.made l.keeper;
  slots : slots_in l.keeper ≡ l.slots;
  count : length l.all.items ≡ l.made;
  room : l.seats ≤ vec_capacity l.all;
  seats : (k : ℕ) (s : Seat g.row.J.Denot g.row.O.Denot) → slice_get l.all.items k ≡ Some s → IsNewSeat l.keeper k s;
}
