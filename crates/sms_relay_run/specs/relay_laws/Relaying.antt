-- How a unit reaches a centre that starts with no rows, and on which links it sends what.
use Rattle.std.specs.Prelude.{◌≡◌, ℕ, zero, suc, nat_lt, length, drop, List, [], ◌∷◌, ◌++◌, if◌then◌else◌, Option, Some, None, Result, Ok, Err}
use Rattle.std.specs.Str.{bytes_eq}
use Rattle.sms_base.specs.HandsetNumber.{names_handset, own_address}
use Rattle.sms_base.specs.declared.address.Address.{Address}
use Rattle.sms_control.specs.ControlGrammar.{spelled}
use Rattle.sms_control.specs.LinkStep.{acknowledgement, in_transaction}
use Rattle.sms_control.specs.declared.message.Cp.TheVariants.{DataUnit}
use Rattle.sms_control.specs.declared.transaction.TransactionFlag.TheVariants.{FromOriginator, ToOriginator}
use Rattle.sms_relay.specs.RelayReading.{up_at}
use Rattle.sms_relay.specs.declared.fault.RelayFault.{RelayFault}
use Rattle.sms_relay.specs.declared.frame.Rp.{Rp}
use Rattle.sms_relay.specs.declared.frame.Rp.TheVariants.{DataUnit as RpData, AckUnit, ErrorUnit, Smma}
use Rattle.sms_tpdu.specs.TpduReading.{up_at as tpdu_up_at}
use Rattle.sms_tpdu.specs.declared.carrier.Carrier.TheVariants.{InData}
use Rattle.sms_tpdu.specs.declared.fault.TpduFault.{TpduFault}
use Rattle.sms_tpdu.specs.declared.up.Up.{Up}
use Rattle.sms_tpdu.specs.declared.up.Up.TheVariants.{Submit, DeliverReport}
use Rattle.sms_centre_rows.specs.declared.waiting.handset_link.Sent.{Sent}
use Rattle.sms_centre_spec.specs.CentreEvent.{happened, started}
use Rattle.sms_centre_spec.specs.Draft.{Core}
use Rattle.sms_centre_spec.specs.SoundRows.{first_rows}
use Rattle.sms_centre_spec.specs.declared.event.CentreEvent.{CentreEvent}
use Rattle.sms_centre_spec.specs.declared.event.CentreEvent.TheVariants.{Frame}
use Rattle.sms_centre_spec.specs.declared.setup.Setup.{Setup}
use Rattle.sms_relay_run.specs.relay_laws.Relay.{IsRelayed}
use Rattle.sms_relay_run.specs.declared.relay_laws.relayed.Relayed.{Relayed}

-- ---- the handsets

-- the handset that a SUBMIT is for, if it names one
abbrev pub destination_in : Result Up TpduFault → Option Address
destination_in (Ok (Submit s)) = if names_handset s.destination_address then Some s.destination_address else None
destination_in (Ok (DeliverReport r)) = None
destination_in (Err fault) = None

-- the same of a unit
abbrev pub destination_of : Result Rp RelayFault → Option Address
destination_of (Ok (RpData reference centre tpdu)) = destination_in (tpdu_up_at InData tpdu)
destination_of (Ok (AckUnit reference tpdu)) = None
destination_of (Ok (ErrorUnit reference cause tpdu)) = None
destination_of (Ok (Smma reference)) = None
destination_of (Err fault) = None

-- the destination, where it is another than the sender
abbrev pub others_for : List ℕ → Option Address → List (List ℕ)
others_for from None = []
others_for from (Some to) = if bytes_eq from to.digits then [] else to.digits ∷ []

abbrev pub handsets_for : List ℕ → Option Address → List (List ℕ)
handsets_for from to = from ∷ others_for from to

-- ---- the centre, and the event

-- no account
abbrev pub setup_for : Address → ℕ → Setup
setup_for centre now = record { centre = centre; start = now; first = 1; accounts = [] }

-- no rows and no session, and both links are up
abbrev pub centre_for : Address → List ℕ → ℕ → List ℕ → Core
centre_for centre from now unit = started (first_rows (setup_for centre now)) (handsets_for from (destination_of (up_at unit))) []

-- the unit in CP-DATA, which opens a transaction of the sender's (3GPP TS 24.011 5.2.2)
abbrev pub frame_for : List ℕ → List ℕ
frame_for unit = spelled (DataUnit (in_transaction FromOriginator 0) unit)

abbrev pub event_for : List ℕ → List ℕ → CentreEvent
event_for from unit = Frame from (frame_for unit) None

-- ---- the frames

-- each frame with the digits of its handset
abbrev pub outputs : List Sent → List (List ℕ × List ℕ)
outputs [] = []
outputs (s ∷ ss) = (s.handset, s.frame.octets) ∷ outputs ss

-- in the sender's transaction
abbrev pub answer_frames : List ℕ → Option (List ℕ) → List (List ℕ × List ℕ)
answer_frames from None = []
answer_frames from (Some unit) = (from, spelled (DataUnit (in_transaction ToOriginator 0) unit)) ∷ []

-- in a transaction of the centre's
abbrev pub down_frames : Option (Address × List ℕ) → List (List ℕ × List ℕ)
down_frames None = []
down_frames (Some down) = (down.0.digits, spelled (DataUnit (in_transaction FromOriginator 0) down.1)) ∷ []

-- CP-ACK of the sender's frame, the answer, and what is sent to the destination
abbrev pub frames_of : List ℕ → Relayed → List (List ℕ × List ℕ)
frames_of from r = (from, acknowledgement (in_transaction FromOriginator 0)) ∷ (answer_frames from r.answer ++ down_frames r.down)

-- ---- the units in the frames

-- CP-DATA carries its unit behind its head, its type and its length (3GPP TS 24.011 7.2.1)
abbrev pub unit_behind : List ℕ → Option (List ℕ)
unit_behind frame = if nat_lt (length frame) 3 then None else Some (drop 3 frame)

abbrev pub unit_at : ℕ → List (List ℕ × List ℕ) → Option (List ℕ)
unit_at place [] = None
unit_at zero (frame ∷ frames) = unit_behind frame.1
unit_at (suc place) (frame ∷ frames) = unit_at place frames

abbrev pub addressed : Option Address → Option (List ℕ) → Option (Address × List ℕ)
addressed None unit = None
addressed (Some to) None = None
addressed (Some to) (Some unit) = Some (to, unit)

-- What the definition sends for the unit is what an empty centre sends.
pub record Relays (centre : Address) (from : List ℕ) (now : ℕ) (unit : List ℕ) : Type 0 where
  pub relayed : Relayed
  pub is_relayed : IsRelayed centre (own_address from) now unit relayed
  pub sent : outputs (happened (event_for from unit) (centre_for centre from now unit)).links.frames ≡ frames_of from relayed
