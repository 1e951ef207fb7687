-- One end of a link and what its transactions carry. A turn is what one call does. It has the link after it, the frames
-- that it sends, each with what it carries, and what it passes up.
use Rattle.std.specs.Prelude.{ℕ, List, [], ◌∷◌, Option, Some, None, Result, Ok, Err, if◌then◌else◌, false, is_some}
use Rattle.std.specs.Option.{option_map}
use Rattle.sms_base.specs.declared.holder.Holder.{Holder}
use Rattle.sms_control.specs.declared.fault.CpFault.{CpFault}
use Rattle.sms_control.specs.declared.link_state.LinkState.{LinkState}
use Rattle.sms_control.specs.declared.message.Cp.{Cp}
use Rattle.sms_control.specs.declared.message.Cp.TheVariants.{DataUnit, AckUnit, ErrorUnit}
use Rattle.sms_control.specs.declared.out.Up.{Up}
use Rattle.sms_control.specs.declared.out.Up.TheVariants.{Unit as UnitUp, Failed}
use Rattle.sms_control.specs.declared.transaction.TransactionFlag.{TransactionFlag}
use Rattle.sms_control.specs.declared.transaction.TransactionFlag.TheVariants.{FromOriginator, ToOriginator}
use Rattle.sms_control.specs.ControlReading.{cp_at}
use Rattle.sms_control.specs.LinkStep.{Step, fresh, is_busy, awaits_reply, begin_step, reply_step, take_step, fire_step}
use Rattle.sms_base.specs.declared.carried.Kind.{Kind}
use Rattle.sms_base.specs.declared.carried.Kind.TheVariants.{Data}
use Rattle.sms_base.specs.declared.carried.Carried.{Carried}
use Rattle.sms_link.specs.declared.outgoing.Outgoing.{Outgoing}
use Rattle.sms_link.specs.declared.ending.Side.{Side}
use Rattle.sms_link.specs.declared.ending.Ending.TheVariants.{Lost}
use Rattle.sms_link.specs.declared.ending.Upward.{Upward}
use Rattle.sms_link.specs.declared.ending.Upward.TheVariants.{Opened, Ended}
use Rattle.sms_link.specs.declared.link.LinkOut.{LinkOut}
use Rattle.sms_link.specs.Ending.{unit_at, ended_by}

pub record LinkOf : Type 0 where
  pub side : Side
  pub links : LinkState
  -- what the transaction that this side began carries, and the answer in the other side's, which may be sent again
  pub under_way : Option Carried
  pub answered : Option Carried

pub record Turn : Type 0 where
  pub link : LinkOf
  pub out : LinkOut

-- nothing under way
abbrev pub new_link : Side → LinkOf
new_link side = record { side = side; links = fresh; under_way = None; answered = None }

abbrev pub still : LinkOf → Turn
still l = record { link = l; out = record { frames = []; up = None } }

-- new frames that all carry the same
abbrev pub carrying : Option Carried → List (List ℕ) → List Outgoing
carrying carried [] = []
carrying carried (f ∷ fs) = record { octets = f; carried = carried; is_copy = false } ∷ carrying carried fs

-- ---- this side's own: a transaction, unless one is under way, and the answer in the other side's, if one waits for it

abbrev pub of_kind : Kind → ℕ → Holder → Carried
of_kind kind reference tag = record { kind = kind; reference = reference; tag = tag }

abbrev pub started : Carried → Step → LinkOf → Turn
started carried step l = record {
  link = record l { links = step.state; under_way = Some carried };
  out = record { frames = carrying (Some carried) step.out.frames; up = None };
}

abbrev pub begun : ℕ → ℕ → Holder → List ℕ → LinkOf → Turn
begun now reference tag unit l =
    if is_busy l.links then still l else started (of_kind Data reference tag) (begin_step now unit l.links) l

abbrev pub answering : Carried → Step → LinkOf → Turn
answering carried step l = record {
  link = record l { links = step.state; answered = Some carried };
  out = record { frames = carrying (Some carried) step.out.frames; up = None };
}

abbrev pub replied : ℕ → Kind → ℕ → Holder → List ℕ → LinkOf → Turn
replied now kind reference tag unit l =
    if awaits_reply l.links then answering (of_kind kind reference tag) (reply_step now unit l.links) l else still l

-- ---- frames of the links' own: CP-DATA of this side's transaction is that transaction's data, CP-DATA of the other
-- side's is this side's answer there, and CP-ACK and CP-ERROR carry nothing

abbrev pub carried_by : TransactionFlag → Option Carried → Option Carried → Option Carried
carried_by FromOriginator under_way answered = under_way
carried_by ToOriginator under_way answered = answered

abbrev pub carried_in : Result Cp CpFault → Option Carried → Option Carried → Option Carried
carried_in (Ok (DataUnit transaction unit)) under_way answered = carried_by transaction.flag under_way answered
carried_in (Ok (AckUnit transaction)) under_way answered = None
carried_in (Ok (ErrorUnit transaction cause)) under_way answered = None
carried_in (Err fault) under_way answered = None

-- where they carry something, they are copies
abbrev pub of_links : List ℕ → Option Carried → Outgoing
of_links frame carried = record { octets = frame; carried = carried; is_copy = is_some carried }

abbrev pub from_links : Option Carried → Option Carried → List (List ℕ) → List Outgoing
from_links under_way answered [] = []
from_links under_way answered (f ∷ fs) =
    of_links f (carried_in (cp_at f) under_way answered) ∷ from_links under_way answered fs

-- ---- what is passed up

-- the transaction that this side began has ended, by a unit or without one
abbrev pub unit_ended : Side → List ℕ → Carried → Upward
unit_ended side unit transfer = Ended transfer (ended_by transfer.reference (unit_at side unit))

abbrev pub passed_up : Side → Option Carried → Option Up → Option Upward
passed_up side under_way None = None
passed_up side under_way (Some (UnitUp FromOriginator unit)) = Some (Opened unit)
passed_up side under_way (Some (UnitUp ToOriginator unit)) = option_map (unit_ended side unit) under_way
passed_up side under_way (Some Failed) = option_map (λ (transfer : Carried). Ended transfer Lost) under_way

-- what is under way after it
abbrev pub still_under_way : Option Up → Option Carried → Option Carried
still_under_way None under_way = under_way
still_under_way (Some (UnitUp FromOriginator unit)) under_way = under_way
still_under_way (Some (UnitUp ToOriginator unit)) under_way = None
still_under_way (Some Failed) under_way = None

-- the links did a step of their own
abbrev pub heard : Step → LinkOf → Turn
heard step l = record {
  link = record l { links = step.state; under_way = still_under_way step.out.up l.under_way };
  out = record { frames = from_links l.under_way l.answered step.out.frames; up = passed_up l.side l.under_way step.out.up };
}

abbrev pub taken : List ℕ → LinkOf → Turn
taken frame l = heard (take_step frame l.links) l

abbrev pub fired : ℕ → LinkOf → Turn
fired now l = heard (fire_step now l.links) l
