-- What passes between the sides: a frame of one side is one that the other may be handed. The centre's frames and what it takes
-- are said here as its core has to meet them.
use Rattle.std.specs.Prelude.{◌≡◌, ◌⊎◌, ℕ, List, [], Option, Result, Ok}
use Rattle.sms_base.specs.Among.{Among}
use Rattle.sms_control.specs.declared.message.Cp.TheVariants.{DataUnit as CpData}
use Rattle.sms_control.specs.declared.transaction.Transaction.{Transaction}
use Rattle.sms_control.specs.ControlGrammar.{IsCp}
use Rattle.sms_relay.specs.declared.cause.RpCause.{RpCause}
use Rattle.sms_relay.specs.declared.fault.RelayFault.{RelayFault}
use Rattle.sms_relay.specs.declared.frame.Rp.{Rp}
use Rattle.sms_relay.specs.declared.frame.Rp.TheVariants.{DataUnit, AckUnit, ErrorUnit, Smma}
use Rattle.sms_relay.specs.RelayReading.{up_at, down_at}
use Rattle.sms_base.specs.declared.carried.Carried.{Carried}
use Rattle.sms_base.specs.declared.carried.Kind.{Kind}
use Rattle.sms_base.specs.declared.carried.Kind.TheVariants.{Data, Ack, Error}
use Rattle.sms_world_model.specs.World.{World, Line, Down, Up, Frame, Carried as Carried_frame}
use Rattle.sms_world.specs.frames_pass_between_sides.FramesDown.{IsHanded}
use Rattle.sms_world.specs.frames_pass_between_sides.FramesUp.{CarriesUp, flag_for}
use Rattle.sms_world.specs.headline.SeenFrames.{line_up, octets_of, frame_down}

-- ---- up

-- the frame of the world that a handset's frame is
abbrev pub frame_up : List ℕ → ℕ → List ℕ → Carried → Frame
frame_up h number octets c =
    record { number = number; handset = h; line = line_up c.kind; kind = c.kind; reference = c.reference; tpdu = octets_of c.kind octets; tag = c.tag }

abbrev pub line_to_centre : Kind → Line
line_to_centre Data = Up
line_to_centre Ack = Down
line_to_centre Error = Down

-- the unit is that. Data without a TPDU are RP-SMMA
abbrev pub IsUnitUp : Kind → ℕ → List ℕ → Result Rp RelayFault → Type 0
IsUnitUp Data r tpdu unit = ((centre : List ℕ) × (unit ≡ Ok (DataUnit r centre tpdu))) ⊎ ((unit ≡ Ok (Smma r)) × (tpdu ≡ []))
IsUnitUp Ack r tpdu unit = (report : Option (List ℕ)) × (unit ≡ Ok (AckUnit r report))
IsUnitUp Error r tpdu unit = (cause : RpCause) × (report : Option (List ℕ)) × (unit ≡ Ok (ErrorUnit r cause report))

-- what the centre may be handed: the octets are CP-DATA with the unit that the frame of the world represents
pub record IsCarriedUp (u : Frame) (octets : List ℕ) : Type 0 where
  pub transaction : Transaction
  pub unit : List ℕ
  pub frame : IsCp octets (CpData transaction unit)
  pub flag : transaction.flag ≡ flag_for u.kind
  pub line : u.line ≡ line_to_centre u.kind
  pub unit_is : IsUnitUp u.kind u.reference u.tpdu (up_at unit)

-- every frame of a handset is such a one
abbrev pub UpLaw : Type 0
UpLaw = (h : List ℕ) (number : ℕ) (octets : List ℕ) (c : Carried) → CarriesUp octets c → IsCarriedUp (frame_up h number octets c) octets

-- ---- down

-- the unit is of that kind and has that reference; the centre sends no RP-SMMA
abbrev pub IsOfKindDown : Kind → ℕ → Result Rp RelayFault → Type 0
IsOfKindDown Data r (Ok (DataUnit q centre tpdu)) = q ≡ r
IsOfKindDown Ack r (Ok (AckUnit q tpdu)) = q ≡ r
IsOfKindDown Error r (Ok (ErrorUnit q cause tpdu)) = q ≡ r
IsOfKindDown _ r _ = ⊥

-- what the centre's core has to say of each frame that it sends
pub record CarriesDown (octets : List ℕ) (c : Carried) : Type 0 where
  pub transaction : Transaction
  pub unit : List ℕ
  pub frame : IsCp octets (CpData transaction unit)
  pub flag : transaction.flag ≡ flag_for c.kind
  pub unit_is : IsOfKindDown c.kind c.reference (down_at unit)

-- and then a handset may be handed it
abbrev pub DownLaw : Type 0
DownLaw =
    (h : List ℕ) (number : ℕ) (octets : List ℕ) (c : Carried) (w : World) → CarriesDown octets c → Among (Carried_frame (frame_down h number octets c)) w.bag
    → IsHanded h number octets c.tag w
