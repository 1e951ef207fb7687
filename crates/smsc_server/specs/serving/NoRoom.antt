-- What a connection is sent for which there is no room.
use Rattle.std.specs.Prelude.{ℕ, List}
use Rattle.sms_link.specs.framing.Framing.{framed}
use Rattle.smsc_arrivals.specs.declared.arrival.PeerKind.{PeerKind}
use Rattle.smsc_arrivals.specs.declared.arrival.PeerKind.TheVariants.{Application, Handset}
use Rattle.smsc_endpoint.specs.LinkCalls.{congestion}
use Rattle.smsc_endpoint.specs.Refusing.{no_room}

-- an application: generic_nack with ESME_RBINDFAIL; a handset: the frame CP-ERROR with the cause "congestion"
abbrev pub no_room_for : PeerKind → List ℕ
no_room_for Application = no_room
no_room_for Handset = framed congestion
