-- The transaction of this side that is under way, known by the CP-DATA that began it. Then what ends the transfer that
-- it carries (3GPP TS 24.011 5.3 and 24.007 11.2.3.1.3).
use Rattle.std.specs.Prelude.{◌≡◌, ◌⊎◌, ℕ, List, [], ◌∷◌, Option, Some, None, Result, Ok}
use Rattle.sms_base.specs.declared.carried.Carried.{Carried}
use Rattle.sms_control.specs.declared.cause.CpCause.{CpCause}
use Rattle.sms_control.specs.declared.fault.CpFault.{CpFault}
use Rattle.sms_control.specs.declared.message.Cp.{Cp}
use Rattle.sms_control.specs.declared.message.Cp.TheVariants.{DataUnit, ErrorUnit}
use Rattle.sms_control.specs.declared.transaction.TransactionFlag.TheVariants.{FromOriginator, ToOriginator}
use Rattle.sms_control.specs.ControlGrammar.{spelled}
use Rattle.sms_control.specs.LinkStep.{in_transaction}
use Rattle.sms_link.specs.declared.ending.Ending.{Ending}
use Rattle.sms_link.specs.declared.ending.Ending.TheVariants.{Lost}
use Rattle.sms_link.specs.declared.ending.Side.{Side}
use Rattle.sms_link.specs.declared.ending.Upward.{Upward}
use Rattle.sms_link.specs.declared.ending.Upward.TheVariants.{Opened, Ended}
use Rattle.sms_link.specs.declared.link.LinkOut.{LinkOut}
use Rattle.sms_link.specs.declared.outgoing.Outgoing.{Outgoing}
use Rattle.sms_link.specs.Ending.{unit_at, ended_by}
use Rattle.sms_link.specs.LinkCalls.{LinkCall, Begin, Reply, Take, Fire, turn, first_sending}
use Rattle.sms_link.specs.LinkTurn.{LinkOf, new_link}

-- ---- the CP-DATA that began what is under way

-- what begin sends begins a transaction
abbrev pub if_begun : List Outgoing → Option Outgoing → Option Outgoing
if_begun [] under_way = under_way
if_begun (f ∷ fs) under_way = Some f

-- where a transfer's end is passed up, nothing is under way any more
abbrev pub if_ended : Option Upward → Option Outgoing → Option Outgoing
if_ended None under_way = under_way
if_ended (Some (Opened unit)) under_way = under_way
if_ended (Some (Ended transfer ending)) under_way = None

abbrev pub under_way_by : LinkCall → LinkOut → Option Outgoing → Option Outgoing
under_way_by (Begin now reference tag unit) out under_way = if_begun out.frames under_way
under_way_by (Reply now kind reference tag unit) out under_way = under_way
under_way_by (Take frame) out under_way = if_ended out.up under_way
under_way_by (Fire now) out under_way = if_ended out.up under_way

-- over calls, from a link where that is under way
abbrev pub under_way_over : List LinkCall → LinkOf → Option Outgoing → Option Outgoing
under_way_over [] l under_way = under_way
under_way_over (c ∷ cs) l under_way = under_way_over cs (turn c l).link (under_way_by c (turn c l).out under_way)

-- over calls, from a new link on
abbrev pub under_way_after : List LinkCall → Side → Option Outgoing
under_way_after calls side = under_way_over calls (new_link side) None

-- It is CP-DATA from the originator under that identifier, for that transfer.
pub record IsUnderWay (identifier : ℕ) (transfer : Carried) (under_way : Option Outgoing) : Type 0 where
  pub unit : List ℕ
  pub began : under_way ≡ Some (first_sending (spelled (DataUnit (in_transaction FromOriginator identifier) unit)) transfer)

-- ---- what ends its transfer

-- CP-DATA to the originator: its unit says how
pub record EndsAsAnswered (side : Side) (identifier : ℕ) (frame : Result Cp CpFault) (transfer : Carried) (ending : Ending) : Type 0 where
  pub unit : List ℕ
  pub is_answer : frame ≡ Ok (DataUnit (in_transaction ToOriginator identifier) unit)
  pub is_ended_by : ending ≡ ended_by transfer.reference (unit_at side unit)

-- CP-ERROR to the originator
pub record EndsAsFailed (identifier : ℕ) (frame : Result Cp CpFault) (ending : Ending) : Type 0 where
  pub cause : CpCause
  pub is_error : frame ≡ Ok (ErrorUnit (in_transaction ToOriginator identifier) cause)
  pub is_lost : ending ≡ Lost

-- a frame ends it, under its identifier
pub record EndsByFrame (side : Side) (frame : Result Cp CpFault) (under_way : Option Outgoing) (transfer : Carried) (ending : Ending) : Type 0 where
  pub identifier : ℕ
  pub is_under_way : IsUnderWay identifier transfer under_way
  pub ends : EndsAsAnswered side identifier frame transfer ending ⊎ EndsAsFailed identifier frame ending

-- a timer ends it
pub record EndsByTimer (under_way : Option Outgoing) (transfer : Carried) (ending : Ending) : Type 0 where
  pub identifier : ℕ
  pub is_under_way : IsUnderWay identifier transfer under_way
  pub is_lost : ending ≡ Lost
