-- What the surroundings of a seat say of what happens there.
use Rattle.std.specs.Prelude.{ℕ, ◌==◌, nat_le, Bool, true, false, Option, Some, None, if◌then◌else◌}
use Rattle.std.specs.declared.net.socket_addr.SocketAddr.{SocketAddr}
use Rattle.sms_base.specs.declared.final_state.FinalState.{FinalState}
use Rattle.sms_centre_rows.specs.declared.messages.message.MessageRow.{MessageRow}
use Rattle.smsc_arrivals.specs.declared.arrival.PeerKind.{PeerKind}
use Rattle.smsc_loop.specs.declared.note.LeaveReason.{LeaveReason}
use Rattle.smsc_loop.specs.declared.note.Note.{Note}
use Rattle.smsc_loop.specs.declared.note.Note.TheVariants.{SubmitRefused as RefusedNote, Ended}
use Rattle.smsc_observer.specs.declared.observer.Event.{Event}
use Rattle.smsc_observer.specs.declared.observer.Event.TheVariants.{Endpoint, Unknown, SubmitRefused, Accepted, Final}

-- no account has the number 255
abbrev pub account_numbered : ℕ → Option ℕ
account_numbered number = if number == 255 then None else Some number

-- a connection that ends is one of nobody where it did not say who it is
abbrev pub event_of_end : Bool → ℕ → PeerKind → SocketAddr → LeaveReason → Note → Event
event_of_end true seat side peer why note = Endpoint seat peer note
event_of_end false seat side peer why note = Unknown side peer why

-- A refused submit_sm is told by the account that was bound last, and all else by the seat and the address of the other side.
abbrev pub note_told : ℕ → PeerKind → SocketAddr → Bool → Option ℕ → Note → Event
note_told seat side peer known account (RefusedNote status) = SubmitRefused account status
note_told seat side peer known account (Ended why counts) = event_of_end known seat side peer why (Ended why counts)
note_told seat side peer known account note = Endpoint seat peer note

-- In the seven seconds behind an order to stop the seats wait for their answers; in the last three of them the centre begins nothing.
abbrev pub ends_intake : ℕ → Bool
ends_intake passed = nat_le 4000 passed

abbrev pub ends_waiting : ℕ → Bool
ends_waiting passed = nat_le 7000 passed

-- ---- what is told of a message that was committed

-- it is put twice: as it is accepted, and as it ends
abbrev pub message_told : MessageRow → Option FinalState → Event
message_told message None = Accepted message.id message.handset
message_told message (Some state) = Final message.id state
