-- What one end of a link sends over a list of calls.
use Rattle.std.specs.Prelude.{◌≡◌, ◌⊎◌, ℕ, ◌<◌, ◌≤◌, List, [], ◌∷◌, ◌++◌, Option, Some, None, Result, Ok, Err, true, false, length}
use Rattle.std.specs.List.{AllByRecursion}
use Rattle.sms_base.specs.Among.{Among}
use Rattle.sms_base.specs.declared.holder.Holder.{Holder}
use Rattle.sms_control.specs.declared.fault.CpFault.{CpFault}
use Rattle.sms_control.specs.declared.message.Cp.{Cp}
use Rattle.sms_control.specs.declared.message.Cp.TheVariants.{DataUnit, AckUnit, ErrorUnit}
use Rattle.sms_control.specs.declared.transaction.TransactionFlag.{TransactionFlag}
use Rattle.sms_control.specs.declared.transaction.TransactionFlag.TheVariants.{FromOriginator, ToOriginator}
use Rattle.sms_control.specs.ControlReading.{cp_at}
use Rattle.sms_control.specs.LinkStep.{in_transaction}
use Rattle.sms_base.specs.declared.carried.Kind.{Kind}
use Rattle.sms_base.specs.declared.carried.Kind.TheVariants.{Data}
use Rattle.sms_base.specs.declared.carried.Carried.{Carried}
use Rattle.sms_link.specs.declared.ending.Upward.{Upward}
use Rattle.sms_link.specs.declared.ending.Upward.TheVariants.{Opened, Ended}
use Rattle.sms_link.specs.declared.outgoing.Outgoing.{Outgoing}
use Rattle.sms_link.specs.LinkTurn.{LinkOf, Turn, of_kind, begun, replied, taken, fired}

-- a call, with its moment or its octets
pub data LinkCall : Type 0 where
  Begin : ℕ → ℕ → Holder → List ℕ → LinkCall
  Reply : ℕ → Kind → ℕ → Holder → List ℕ → LinkCall
  Take : List ℕ → LinkCall
  Fire : ℕ → LinkCall

abbrev pub turn : LinkCall → LinkOf → Turn
turn (Begin now reference tag unit) l = begun now reference tag unit l
turn (Reply now kind reference tag unit) l = replied now kind reference tag unit l
turn (Take frame) l = taken frame l
turn (Fire now) l = fired now l

-- the link after the calls
abbrev pub run : List LinkCall → LinkOf → LinkOf
run [] l = l
run (c ∷ cs) l = run cs (turn c l).link

-- a unit of 1 to 248 octets, a frame of octets
abbrev pub IsCall : LinkCall → Type 0
IsCall (Begin now reference tag unit) = (0 < length unit) × (length unit ≤ 248)
IsCall (Reply now kind reference tag unit) = (0 < length unit) × (length unit ≤ 248)
IsCall (Take frame) = AllByRecursion (λ (octet : ℕ). octet < 256) frame
IsCall (Fire now) = Unit {0}

abbrev pub AreCalls : List LinkCall → Type 0
AreCalls calls = AllByRecursion IsCall calls

-- ---- frames

-- new: CP-DATA of that side of its transaction, with the unit, that carries what was given
pub record IsNewFrame (flag : TransactionFlag) (unit : List ℕ) (carried : Carried) (frame : Outgoing) : Type 0 where
  pub identifier : ℕ
  pub reads : cp_at frame.octets ≡ Ok (DataUnit (in_transaction flag identifier) unit)
  pub carries : frame.carried ≡ Some carried
  pub is_first : frame.is_copy ≡ false

abbrev pub first_sending : List ℕ → Carried → Outgoing
first_sending octets carried = record { octets = octets; carried = Some carried; is_copy = false }

-- a copy: among these it was sent for the first time, with the same octets, and carried the same
pub record IsCopy (before : List Outgoing) (frame : Outgoing) : Type 0 where
  pub carried : Carried
  pub carries : frame.carried ≡ Some carried
  pub is_again : frame.is_copy ≡ true
  pub first : Among (first_sending frame.octets carried) before

abbrev pub IsControl : Result Cp CpFault → Type 0
IsControl (Ok (DataUnit t unit)) = ⊥
IsControl (Ok (AckUnit t)) = Unit {0}
IsControl (Ok (ErrorUnit t cause)) = Unit {0}
IsControl (Err fault) = ⊥

-- CP-ACK or CP-ERROR, which carries nothing
pub record IsBare (frame : Outgoing) : Type 0 where
  pub carries_nothing : frame.carried ≡ None
  pub is_first : frame.is_copy ≡ false
  pub is_control : IsControl (cp_at frame.octets)

-- what a call sends where these frames were sent before
abbrev pub Sends : LinkCall → List Outgoing → List Outgoing → Type 0
Sends (Begin now reference tag unit) before frames = AllByRecursion (IsNewFrame FromOriginator unit (of_kind Data reference tag)) frames
Sends (Reply now kind reference tag unit) before frames = AllByRecursion (IsNewFrame ToOriginator unit (of_kind kind reference tag)) frames
Sends (Take frame) before frames = AllByRecursion (λ sent. IsCopy before sent ⊎ IsBare sent) frames
Sends (Fire now) before frames = AllByRecursion (IsCopy before) frames

abbrev pub AllSend : List LinkCall → LinkOf → List Outgoing → Type 0
AllSend [] l before = Unit {0}
AllSend (c ∷ cs) l before = Sends c before (turn c l).out.frames × AllSend cs (turn c l).link ((turn c l).out.frames ++ before)

-- ---- transfers of this side, in turn: while none is under way one may begin, and only the one under way ends

-- a call of begin that sends something
abbrev pub TurnBegins : Carried → List Outgoing → Option Carried → (Option Carried → Type 0) → Type 0
TurnBegins transfer [] waiting Rest = Rest waiting
TurnBegins transfer (f ∷ fs) waiting Rest = (waiting ≡ None) × Rest (Some transfer)

abbrev pub TurnEnds : Option Upward → Option Carried → (Option Carried → Type 0) → Type 0
TurnEnds None waiting Rest = Rest waiting
TurnEnds (Some (Opened unit)) waiting Rest = Rest waiting
TurnEnds (Some (Ended transfer ending)) waiting Rest = (waiting ≡ Some transfer) × Rest None

abbrev pub TakesTurns : List LinkCall → LinkOf → Option Carried → Type 0
TakesTurns [] l waiting = Unit {0}
TakesTurns (Begin now reference tag unit ∷ cs) l waiting =
    TurnBegins (of_kind Data reference tag) (begun now reference tag unit l).out.frames waiting
    (λ next. TakesTurns cs (begun now reference tag unit l).link next)
TakesTurns (Reply now kind reference tag unit ∷ cs) l waiting = TakesTurns cs (replied now kind reference tag unit l).link waiting
TakesTurns (Take frame ∷ cs) l waiting = TurnEnds (taken frame l).out.up waiting (λ next. TakesTurns cs (taken frame l).link next)
TakesTurns (Fire now ∷ cs) l waiting = TurnEnds (fired now l).out.up waiting (λ next. TakesTurns cs (fired now l).link next)
