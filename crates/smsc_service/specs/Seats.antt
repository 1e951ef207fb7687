-- Who sits where: the links that are there, and the sessions that are bound, each by its seat.
use Rattle.std.specs.Prelude.{ℕ, ◌&&◌, List, [], ◌∷◌, Bool, Option, Some, None, if◌then◌else◌, bytes_eq, is_none}
use Rattle.sms_centre_spec.specs.declared.jobs.job.Job.{Job}
use Rattle.sms_centre_spec.specs.declared.jobs.job.Job.TheVariants.{Bound, Unbound, Submit, Query, Cancel, DeliverAnswered, LinkUp, LinkDown, Frame}
use Rattle.sms_rows.specs.table.Table.{put, row_at, without}
use Rattle.smsc_service.specs.declared.seat_map.SeatMap.{SeatMap}
use Rattle.smsc_service.specs.declared.seat_map.LinkSeat.{LinkSeat}
use Rattle.smsc_service.specs.declared.seat_map.BoundSession.{BoundSession}

pub record Seats : Type 0 where
  pub links : List LinkSeat
  pub bound_sessions : List BoundSession

abbrev pub nobody : Seats
nobody = record { links = []; bound_sessions = [] }

-- those of a seat map
abbrev pub seats_in : SeatMap → Seats
seats_in seat_map = record { links = seat_map.links; bound_sessions = seat_map.bound_sessions }

abbrev pub link_key : LinkSeat → ℕ
link_key link = link.seat

abbrev pub bound_session_key : BoundSession → ℕ
bound_session_key bound_session = bound_session.seat

-- ---- looked up

abbrev pub handset_of : Option LinkSeat → Option (List ℕ)
handset_of None = None
handset_of (Some link) = Some link.handset

-- the handset whose link is at the seat
abbrev pub handset_at : ℕ → List LinkSeat → Option (List ℕ)
handset_at seat links = handset_of (row_at link_key seat links)

-- the seat at which the link of the handset is
abbrev pub seat_of : List ℕ → List LinkSeat → Option ℕ
seat_of handset [] = None
seat_of handset (link ∷ links) = if bytes_eq link.handset handset then Some link.seat else seat_of handset links

-- neither a session nor a link is at the seat
abbrev pub is_vacant : ℕ → Seats → Bool
is_vacant seat s = is_none (row_at bound_session_key seat s.bound_sessions) && is_none (row_at link_key seat s.links)

-- ---- changed

-- a handset has one link
abbrev pub raised : Option ℕ → ℕ → List ℕ → List LinkSeat → List LinkSeat
raised None seat handset links = put link_key (record { seat = seat; handset = handset }) links
raised (Some other) seat handset links = links

-- what the job of the seat changes
abbrev pub followed : ℕ → Job → Seats → Seats
followed seat (Bound account receives) s =
    record s { bound_sessions = put bound_session_key (record { seat = seat; account = account; receives = receives }) s.bound_sessions }
followed seat Unbound s = record s { bound_sessions = without bound_session_key seat s.bound_sessions }
followed seat (Submit account pdu) s = s
followed seat (Query account pdu) s = s
followed seat (Cancel account pdu) s = s
followed seat (DeliverAnswered id is_accepted) s = s
followed seat (LinkUp handset) s = record s { links = raised (seat_of handset s.links) seat handset s.links }
followed seat LinkDown s = record s { links = without link_key seat s.links }
followed seat (Frame octets) s = s
