-- What a handset sends: for each frame the frame of the world that it is, and that its octets say so.
use Rattle.std.specs.Prelude.{◌≡◌, ℕ, ◌+◌, List, [], ◌∷◌, Option, Some, None, Result, Ok, Err, length}
use Rattle.sms_control.specs.declared.fault.CpFault.{CpFault}
use Rattle.sms_control.specs.declared.message.Cp.{Cp}
use Rattle.sms_control.specs.declared.message.Cp.TheVariants.{DataUnit as CpData, AckUnit as CpAck, ErrorUnit as CpError}
use Rattle.sms_control.specs.declared.transaction.Transaction.{Transaction}
use Rattle.sms_control.specs.declared.transaction.TransactionFlag.{TransactionFlag}
use Rattle.sms_control.specs.declared.transaction.TransactionFlag.TheVariants.{FromOriginator, ToOriginator}
use Rattle.sms_control.specs.ControlGrammar.{IsCp}
use Rattle.sms_control.specs.ControlReading.{cp_at}
use Rattle.sms_relay.specs.declared.fault.RelayFault.{RelayFault}
use Rattle.sms_relay.specs.declared.frame.Rp.{Rp}
use Rattle.sms_relay.specs.declared.frame.Rp.TheVariants.{DataUnit, AckUnit, ErrorUnit, Smma}
use Rattle.sms_relay.specs.RelayReading.{up_at}
use Rattle.sms_base.specs.declared.carried.Carried.{Carried}
use Rattle.sms_base.specs.declared.carried.Kind.{Kind}
use Rattle.sms_base.specs.declared.carried.Kind.TheVariants.{Data, Ack, Error}
use Rattle.sms_link.specs.declared.outgoing.Outgoing.{Outgoing}
use Rattle.sms_world_model.specs.World.{Sent as Sent_frame}
use Rattle.sms_world.specs.headline.SeenFrames.{sent_as}

-- data are in a transaction of their sender, answers in one of the other side
abbrev pub flag_for : Kind → TransactionFlag
flag_for Data = FromOriginator
flag_for Ack = ToOriginator
flag_for Error = ToOriginator

-- the bag with these frames, sent one after the other
abbrev pub stacked : List ℕ → List Outgoing → List Sent_frame → List Sent_frame
stacked handset [] bag = bag
stacked handset (f ∷ fs) bag = stacked handset fs (sent_as handset (length bag + 1) f.octets f.carried ∷ bag)

-- the unit is of that kind and has that reference
abbrev pub IsOfKind : Kind → ℕ → Result Rp RelayFault → Type 0
IsOfKind Data r (Ok (DataUnit q centre tpdu)) = q ≡ r
IsOfKind Data r (Ok (Smma q)) = q ≡ r
IsOfKind Ack r (Ok (AckUnit q tpdu)) = q ≡ r
IsOfKind Error r (Ok (ErrorUnit q cause tpdu)) = q ≡ r
IsOfKind _ r _ = ⊥

-- the frame is CP-DATA with such a unit
pub record CarriesUp (octets : List ℕ) (c : Carried) : Type 0 where
  pub transaction : Transaction
  pub unit : List ℕ
  pub frame : IsCp octets (CpData transaction unit)
  pub flag : transaction.flag ≡ flag_for c.kind
  pub unit_is : IsOfKind c.kind c.reference (up_at unit)

-- CP-ACK or CP-ERROR
abbrev pub IsBare : Result Cp CpFault → Type 0
IsBare (Ok (CpData transaction unit)) = ⊥
IsBare (Ok (CpAck transaction)) = Unit {0}
IsBare (Ok (CpError transaction cause)) = Unit {0}
IsBare (Err fault) = ⊥

abbrev pub IsWhole : List ℕ → Option Carried → Type 0
IsWhole octets None = IsBare (cp_at octets)
IsWhole octets (Some c) = CarriesUp octets c

-- what a frame carries is what its octets say: so the other side may read it
abbrev pub AreWhole : List Outgoing → Type 0
AreWhole [] = Unit {0}
AreWhole (f ∷ fs) = IsWhole f.octets f.carried × AreWhole fs
