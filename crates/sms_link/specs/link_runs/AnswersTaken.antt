-- The answer in a transaction of this side, as it is taken, and calls over which no other is taken (3GPP TS 24.011 5.3.2).
use Rattle.std.specs.Prelude.{◌≡◌, ℕ, List, [], ◌∷◌, Option, Some, None, Ok, false}
use Rattle.sms_base.specs.declared.carried.Carried.{Carried}
use Rattle.sms_control.specs.declared.message.Cp.TheVariants.{DataUnit, AckUnit}
use Rattle.sms_control.specs.declared.transaction.TransactionFlag.TheVariants.{FromOriginator, ToOriginator}
use Rattle.sms_control.specs.ControlGrammar.{spelled}
use Rattle.sms_control.specs.ControlReading.{cp_at}
use Rattle.sms_control.specs.LinkStep.{in_transaction}
use Rattle.sms_link.specs.declared.ending.Ending.{Ending}
use Rattle.sms_link.specs.declared.ending.Ending.TheVariants.{Acknowledged, Refused, Wrong, Lost}
use Rattle.sms_link.specs.declared.ending.Upward.{Upward}
use Rattle.sms_link.specs.declared.ending.Upward.TheVariants.{Opened, Ended}
use Rattle.sms_link.specs.declared.outgoing.Outgoing.{Outgoing}
use Rattle.sms_link.specs.LinkCalls.{LinkCall, turn}
use Rattle.sms_link.specs.LinkTurn.{LinkOf, taken}

-- The frame is CP-DATA to the originator under that identifier, and with it ends the transfer under way.
pub record EndsTheTransfer (frame : List ℕ) (identifier : ℕ) (l : LinkOf) : Type 0 where
  pub unit : List ℕ
  pub reads : cp_at frame ≡ Ok (DataUnit (in_transaction ToOriginator identifier) unit)
  pub transfer : Carried
  pub ending : Ending
  pub passes_up : (taken frame l).out.up ≡ Some (Ended transfer ending)

-- a transfer that an answer ended is acknowledged, refused or answered wrongly; one that ends without is lost
abbrev pub IsLost : Ending → Type 0
IsLost Acknowledged = ⊥
IsLost (Refused cause tpdu) = ⊥
IsLost Wrong = ⊥
IsLost Lost = Unit {0}

-- what is passed up is no answer
abbrev pub IsNoAnswer : Option Upward → Type 0
IsNoAnswer None = Unit {0}
IsNoAnswer (Some (Opened unit)) = Unit {0}
IsNoAnswer (Some (Ended transfer ending)) = IsLost ending

-- no transfer of this side is answered in these calls
abbrev pub NoneAnswered : List LinkCall → LinkOf → Type 0
NoneAnswered [] l = Unit {0}
NoneAnswered (c ∷ cs) l = IsNoAnswer (turn c l).out.up × NoneAnswered cs (turn c l).link

-- CP-ACK of the answer in the transaction of that identifier, which carries nothing
abbrev pub acknowledgement_of : ℕ → Outgoing
acknowledgement_of identifier = record { octets = spelled (AckUnit (in_transaction FromOriginator identifier)); carried = None; is_copy = false }
