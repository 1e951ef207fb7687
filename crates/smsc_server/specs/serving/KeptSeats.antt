-- Which connections may sit at the 32 seats of a run. Eight seats are kept for applications and eight for handsets, so that neither side
-- shuts the other out.
use Rattle.std.specs.Prelude.{ℕ, ◌+◌, nat_lt, ◌&&◌, Bool}
use Rattle.smsc_arrivals.specs.declared.arrival.PeerKind.{PeerKind}
use Rattle.smsc_arrivals.specs.declared.arrival.PeerKind.TheVariants.{Application, Handset}

-- how many of both sides there are of this one
abbrev pub seated_of : PeerKind → ℕ → ℕ → ℕ
seated_of Application applications links = applications
seated_of Handset applications links = links

-- one more of that side may sit beside so many applications and links
abbrev pub may_sit : PeerKind → ℕ → ℕ → Bool
may_sit side applications links = nat_lt (applications + links) 32 && nat_lt (seated_of side applications links) 24
