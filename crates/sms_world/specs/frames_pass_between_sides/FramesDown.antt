-- What a handset may be handed: a frame of the world with its octets, or one that carries nothing.
use Rattle.std.specs.Prelude.{◌≡◌, ◌⊎◌, ℕ, List, Option, Result, Ok}
use Rattle.sms_base.specs.Among.{Among}
use Rattle.sms_base.specs.declared.holder.Holder.{Holder}
use Rattle.sms_control.specs.declared.message.Cp.TheVariants.{DataUnit as CpData}
use Rattle.sms_control.specs.declared.transaction.Transaction.{Transaction}
use Rattle.sms_control.specs.ControlGrammar.{IsCp}
use Rattle.sms_control.specs.ControlReading.{cp_at}
use Rattle.sms_relay.specs.declared.cause.RpCause.{RpCause}
use Rattle.sms_relay.specs.declared.fault.RelayFault.{RelayFault}
use Rattle.sms_relay.specs.declared.frame.Rp.{Rp}
use Rattle.sms_relay.specs.declared.frame.Rp.TheVariants.{DataUnit, AckUnit, ErrorUnit}
use Rattle.sms_relay.specs.RelayReading.{down_at}
use Rattle.sms_base.specs.declared.carried.Kind.{Kind}
use Rattle.sms_base.specs.declared.carried.Kind.TheVariants.{Data, Ack, Error}
use Rattle.sms_world_model.specs.World.{World, Down, Frame, Carried as Carried_frame}
use Rattle.sms_world.specs.frames_pass_between_sides.FramesUp.{IsBare, flag_for}
use Rattle.sms_world.specs.headline.SeenFrames.{line_down}

-- the unit is that
abbrev pub IsUnitOf : Kind → ℕ → List ℕ → Result Rp RelayFault → Type 0
IsUnitOf Data r octets unit = (centre : List ℕ) × (unit ≡ Ok (DataUnit r centre octets))
IsUnitOf Ack r octets unit = (tpdu : Option (List ℕ)) × (unit ≡ Ok (AckUnit r tpdu))
IsUnitOf Error r octets unit = (cause : RpCause) × (tpdu : Option (List ℕ)) × (unit ≡ Ok (ErrorUnit r cause tpdu))

-- the octets are CP-DATA with the unit that the frame of the world represents
pub record IsCarriedDown (u : Frame) (octets : List ℕ) : Type 0 where
  pub transaction : Transaction
  pub unit : List ℕ
  pub frame : IsCp octets (CpData transaction unit)
  pub flag : transaction.flag ≡ flag_for u.kind
  pub line : u.line ≡ line_down u.kind
  pub unit_is : IsUnitOf u.kind u.reference u.tpdu (down_at unit)

-- a frame that is handed to the handset: one of the bag, or one that carries nothing
abbrev pub IsHanded : List ℕ → ℕ → List ℕ → Holder → World → Type 0
IsHanded handset number octets tag w =
    IsBare (cp_at octets)
    ⊎ ((u : Frame) × (Among (Carried_frame u) w.bag × (u.number ≡ number) × (u.handset ≡ handset) × (u.tag ≡ tag) × IsCarriedDown u octets))

-- data from the centre
abbrev pub frame_of : List ℕ → ℕ → ℕ → List ℕ → Holder → Frame
frame_of h number r octets tag = record { number = number; handset = h; line = Down; kind = Data; reference = r; tpdu = octets; tag = tag }
