-- What came at the two listeners of a server.
use Rattle.std.specs.Prelude.{◌≡◌, List, [], ◌∷◌, ◌++◌, Option, Some, None, ⊤}
use Rattle.std.specs.declared.net.socket_addr.SocketAddr.{SocketAddr}
use Rattle.smsc_arrivals.specs.declared.arrival.Arrival.{Arrival}
use Rattle.smsc_arrivals.specs.declared.arrival.PeerKind.{PeerKind}
use Rattle.smsc_arrivals.specs.declared.arrival.PeerKind.TheVariants.{Application, Handset}
use Rattle.smsc_arrivals.specs.declared.doors.Doors.{Doors}

module _ {A : Type 0} where
  -- these came behind those that had come, where that is stated
  abbrev pub AddsAll : Option (List A) → Option (List A) → List A → Type 0
  AddsAll None behind more = ⊤
  AddsAll (Some before) behind more = behind ≡ Some (before ++ more)

  -- one more came
  abbrev pub Adds : Option (List A) → Option (List A) → A → Type 0
  Adds before behind one = AddsAll before behind (one ∷ [])

module _ {S : Type 0} where
  -- a connection as its listener gave it
  abbrev pub entered : Arrival S → S × SocketAddr
  entered a = (a.stream, a.peer)

  abbrev pub at_applications_if : PeerKind → Arrival S → List (S × SocketAddr) → List (S × SocketAddr)
  at_applications_if Application a rest = entered a ∷ rest
  at_applications_if Handset a rest = rest

  abbrev pub at_links_if : PeerKind → Arrival S → List (S × SocketAddr) → List (S × SocketAddr)
  at_links_if Application a rest = rest
  at_links_if Handset a rest = entered a ∷ rest

  -- those that came at the listener for applications
  abbrev pub at_applications : List (Arrival S) → List (S × SocketAddr)
  at_applications [] = []
  at_applications (a ∷ others) = at_applications_if a.side a (at_applications others)

  -- those that came at the one for handsets
  abbrev pub at_links : List (Arrival S) → List (S × SocketAddr)
  at_links [] = []
  at_links (a ∷ others) = at_links_if a.side a (at_links others)

module _ {L S : Type 0} (came : L → Option (List (S × SocketAddr))) where
  -- these connections came at the two listeners meanwhile, in order, and no others
  pub record HaveCome (before behind : Doors L) (arrivals : List (Arrival S)) : Type 0 where
    pub applications : AddsAll (came before.applications) (came behind.applications) (at_applications arrivals)
    pub links : AddsAll (came before.links) (came behind.links) (at_links arrivals)

  abbrev pub HasCome : Doors L → Doors L → Arrival S → Type 0
  HasCome before behind arrival = HaveCome before behind (arrival ∷ [])

  abbrev pub HaveNotCome : Doors L → Doors L → Type 0
  HaveNotCome before behind = HaveCome before behind []
