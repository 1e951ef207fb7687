use Rattle.std.proofs.Common.{◌≡◌, ◌≢◌, ℕ, ◌<◌, false}
use Rattle.smsc_server.specs.serving.LinkPlaces.{is_at}
use Rattle.smsc_server.proofs.serving.link_seats.LinkSeats.other.Given as goal

abbrev pub invariant-loop-other : goal.invariant-loop-other
invariant-loop-other l = (seat : ℕ) → seat < l.other → seat ≢ l.seat → is_at l.handset seat l.self.handsets.items ≡ false
