-- Who sits at each seat, by what happened there.
use Rattle.std.specs.Prelude.{ℕ, List, Option, Some, None, slice_set}
use Rattle.smpp_session.specs.declared.action.BindKind.{BindKind}
use Rattle.smpp_session.specs.declared.action.BindKind.TheVariants.{Transmitter, Receiver, Transceiver}
use Rattle.smsc_loop.specs.declared.note.Note.{Note}
use Rattle.smsc_loop.specs.declared.note.Note.TheVariants.{Bound, Unbound, LinkUp, Ended}
use Rattle.smsc_status.specs.declared.figures.SessionKind.{SessionKind}
use Rattle.smsc_status.specs.declared.figures.SessionKind.TheVariants.{Transmitter as ShownTransmitter, Receiver as ShownReceiver}
use Rattle.smsc_status.specs.declared.figures.SessionKind.TheVariants.{Transceiver as ShownTransceiver}
use Rattle.smsc_observer.specs.declared.seats.Occupant.{Occupant}
use Rattle.smsc_observer.specs.declared.seats.Occupant.TheVariants.{Unknown, Session, Link}

abbrev pub kind_shown : BindKind → SessionKind
kind_shown Transmitter = ShownTransmitter
kind_shown Receiver = ShownReceiver
kind_shown Transceiver = ShownTransceiver

-- Who sits there from that moment on; none where it changes nothing. A session that is bound no longer has said nothing of who it is.
abbrev pub occupant_behind : ℕ → Note → Option Occupant
occupant_behind now (Bound account kind) = Some (Session account (kind_shown kind) now)
occupant_behind now (LinkUp handset) = Some (Link handset now)
occupant_behind now Unbound = Some Unknown
occupant_behind now (Ended why counts) = Some Unknown
occupant_behind now note = None

abbrev pub seated_at : ℕ → Option Occupant → List Occupant → List Occupant
seated_at seat None seats = seats
seated_at seat (Some occupant) seats = slice_set seats seat occupant
