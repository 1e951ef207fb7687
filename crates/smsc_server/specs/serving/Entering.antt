-- What came at the listeners, and what of it was given to the seats.
use Rattle.std.specs.Prelude.{◌≡◌, ◌<◌, ℕ, false, List, [], ◌∷◌, ◌++◌, Option, Some, None}
use Rattle.std.specs.declared.net.socket_addr.SocketAddr.{SocketAddr}
use Rattle.smsc_arrivals.specs.Arriving.{HaveCome}
use Rattle.smsc_arrivals.specs.Sharing.{items_of, of}
use Rattle.smsc_arrivals.specs.Ways.{IsSameGiver, given_by, made_by, returned_to, settled_at}
use Rattle.smsc_arrivals.specs.declared.arrival.Arrival.{Arrival}
use Rattle.smsc_arrivals.specs.declared.doors.Doors.{Doors}
use Rattle.smsc_arrivals.specs.declared.sharing.ends.Giver.{Giver}
use Rattle.smsc_server.specs.declared.serving.connection.Ports.{Ports}
use Rattle.smsc_server.specs.declared.serving.entrance.Entrance.{Entrance}

-- the connections of what was given or taken, without end marks
abbrev pub arrivals_among : {A : Type 0} → List (Option A) → List A
arrivals_among [] = []
arrivals_among (Some a ∷ items) = a ∷ arrivals_among items
arrivals_among (None ∷ items) = arrivals_among items

-- the queue and its seats are the same
pub record HasSameSeats {T : Type 0} (a b : Giver T) : Type 0 where
  pub same : IsSameGiver a b
  pub made : made_by b ≡ made_by a
  pub settled : settled_at b ≡ settled_at a
  pub returned : returned_to b ≡ returned_to a

-- What came since was given to the seats. One may have come behind it that nobody took, and then no other comes.
pub record HaveEntered {L S : Type 0} (came : L → Option (List (S × SocketAddr))) (start : Doors L) (entrance : Entrance L S) : Type 0 where
  pub lost : List (Arrival S)
  pub came_so : HaveCome came start entrance.doors (arrivals_among (given_by entrance.giver) ++ lost)
  pub none_lost : entrance.is_shut ≡ false → lost ≡ []

-- the listeners of two ports
abbrev pub doors_of : {L : Type 0} → Ports L → Doors L
doors_of ports = ports.doors

-- These are the connections that came meanwhile, in order, each behind the number of the seat that took it. Those behind the number 32 were taken by
-- no seat, and closed.
pub record Came {L S : Type 0} (came : L → Option (List (S × SocketAddr))) (before behind : Doors L) (arrivals : List (ℕ × Arrival S)) : Type 0 where
  pub came_so : HaveCome came before behind (items_of arrivals)
  pub few : (n : ℕ) → 32 < n → of n arrivals ≡ []
