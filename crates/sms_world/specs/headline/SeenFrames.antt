-- The frame of the world that a frame of a side is. It is its line and its TPDU, which its octets say (3GPP TS 24.011 8.1 and 7.3). A frame
-- that carries nothing, CP-ACK or CP-ERROR, is bare.
use Rattle.std.specs.Prelude.{ℕ, List, [], Option, Some, None, Result, Ok, Err}
use Rattle.sms_control.specs.declared.fault.CpFault.{CpFault}
use Rattle.sms_control.specs.declared.message.Cp.{Cp}
use Rattle.sms_control.specs.declared.message.Cp.TheVariants.{DataUnit as CpData, AckUnit as CpAck, ErrorUnit as CpError}
use Rattle.sms_control.specs.ControlReading.{cp_at}
use Rattle.sms_relay.specs.declared.fault.RelayFault.{RelayFault}
use Rattle.sms_relay.specs.declared.frame.Rp.{Rp}
use Rattle.sms_relay.specs.declared.frame.Rp.TheVariants.{DataUnit, AckUnit, ErrorUnit, Smma}
use Rattle.sms_relay.specs.RelayReading.{up_at, down_at}
use Rattle.sms_base.specs.declared.carried.Carried.{Carried}
use Rattle.sms_base.specs.declared.carried.Kind.{Kind}
use Rattle.sms_base.specs.declared.carried.Kind.TheVariants.{Data, Ack, Error}
use Rattle.sms_world_model.specs.World.{Line, Down, Up, Sent, Carried as Carried_frame, Bare, Frame}

-- ---- a frame of a handset

-- a handset's data are on its own line, its answers on the centre's
abbrev pub line_up : Kind → Line
line_up Data = Up
line_up Ack = Down
line_up Error = Down

-- the TPDU of RP-DATA
abbrev pub unit_tpdu : Result Rp RelayFault → List ℕ
unit_tpdu (Ok (DataUnit reference centre tpdu)) = tpdu
unit_tpdu (Ok (AckUnit reference tpdu)) = []
unit_tpdu (Ok (ErrorUnit reference cause tpdu)) = []
unit_tpdu (Ok (Smma reference)) = []
unit_tpdu (Err fault) = []

abbrev pub frame_tpdu : Result Cp CpFault → List ℕ
frame_tpdu (Ok (CpData transaction unit)) = unit_tpdu (up_at unit)
frame_tpdu (Ok (CpAck transaction)) = []
frame_tpdu (Ok (CpError transaction cause)) = []
frame_tpdu (Err fault) = []

abbrev pub octets_of : Kind → List ℕ → List ℕ
octets_of Data octets = frame_tpdu (cp_at octets)
octets_of Ack octets = []
octets_of Error octets = []

abbrev pub sent_as : List ℕ → ℕ → List ℕ → Option Carried → Sent
sent_as handset number octets None = Bare number handset
sent_as handset number octets (Some c) =
    Carried_frame (record {
      number = number;
      handset = handset;
      line = line_up c.kind;
      kind = c.kind;
      reference = c.reference;
      tpdu = octets_of c.kind octets;
      tag = c.tag;
    })

-- ---- a frame of the centre

abbrev pub line_down : Kind → Line
line_down Data = Down
line_down Ack = Up
line_down Error = Up

abbrev pub frame_tpdu_down : Result Cp CpFault → List ℕ
frame_tpdu_down (Ok (CpData transaction unit)) = unit_tpdu (down_at unit)
frame_tpdu_down (Ok (CpAck transaction)) = []
frame_tpdu_down (Ok (CpError transaction cause)) = []
frame_tpdu_down (Err fault) = []

abbrev pub octets_down : Kind → List ℕ → List ℕ
octets_down Data octets = frame_tpdu_down (cp_at octets)
octets_down Ack octets = []
octets_down Error octets = []

-- the frame of the world that a frame of the centre is
abbrev pub frame_down : List ℕ → ℕ → List ℕ → Carried → Frame
frame_down h number octets c =
    record { number = number; handset = h; line = line_down c.kind; kind = c.kind; reference = c.reference; tpdu = octets_down c.kind octets; tag = c.tag }

abbrev pub sent_down : List ℕ → ℕ → List ℕ → Option Carried → Sent
sent_down handset number octets None = Bare number handset
sent_down handset number octets (Some c) = Carried_frame (frame_down handset number octets c)
