-- Of which message a handset refuses a part, and by which cause. It does so by an RP-ERROR under the reference of the RP-DATA that is under
-- way to it (3GPP TS 24.011 8.2.3, 8.2.5.4), in CP-DATA to the side that began the transaction (3GPP TS 24.007 11.2.3.1.3).
use Rattle.std.specs.Prelude.{ℕ, ◌==◌, nat_lt, List, Option, Some, None, Result, Ok, Err, if◌then◌else◌}
use Rattle.sms_base.specs.declared.carried.Carried.{Carried}
use Rattle.sms_base.specs.declared.holder.Holder.{Holder}
use Rattle.sms_base.specs.declared.holder.Holder.TheVariants.{Part, Report, Entry, Memory}
use Rattle.sms_centre_rows.specs.waiting.Links.{link_of}
use Rattle.sms_centre_spec.specs.Draft.{Core}
use Rattle.sms_centre_spec.specs.declared.jobs.job.Job.{Job}
use Rattle.sms_centre_spec.specs.declared.jobs.job.Job.TheVariants.{Bound, Unbound, Submit, Query, Cancel, DeliverAnswered, LinkUp, LinkDown, Frame}
use Rattle.sms_control.specs.ControlReading.{cp_at}
use Rattle.sms_control.specs.declared.fault.CpFault.{CpFault}
use Rattle.sms_control.specs.declared.message.Cp.{Cp}
use Rattle.sms_control.specs.declared.message.Cp.TheVariants.{DataUnit as CpData, AckUnit as CpAck, ErrorUnit as CpError}
use Rattle.sms_control.specs.declared.transaction.TransactionFlag.{TransactionFlag}
use Rattle.sms_control.specs.declared.transaction.TransactionFlag.TheVariants.{FromOriginator, ToOriginator}
use Rattle.sms_keeper.specs.declared.machine.Stimulus.{Stimulus}
use Rattle.sms_keeper.specs.declared.machine.Stimulus.TheVariants.{Job as JobOf, Tick, Own}
use Rattle.sms_relay.specs.Cause.{number_of}
use Rattle.sms_relay.specs.RelayReading.{up_at}
use Rattle.sms_relay.specs.declared.fault.RelayFault.{RelayFault}
use Rattle.sms_relay.specs.declared.frame.Rp.{Rp}
use Rattle.sms_relay.specs.declared.frame.Rp.TheVariants.{DataUnit, AckUnit, ErrorUnit, Smma}
use Rattle.smsc_service.specs.Numbers.{is_number}
use Rattle.smsc_service.specs.Seats.{handset_at}
use Rattle.smsc_service.specs.declared.refused.Refusal.{Refusal}
use Rattle.smsc_service.specs.declared.refused.RefusedPart.{RefusedPart}
use Rattle.smsc_service.specs.declared.seat_map.LinkSeat.{LinkSeat}

-- ---- what a frame says

-- the RP-ERROR that a unit is
abbrev pub refusal_of_unit : Result Rp RelayFault → Option Refusal
refusal_of_unit (Ok (DataUnit reference centre unit)) = None
refusal_of_unit (Ok (AckUnit reference unit)) = None
refusal_of_unit (Ok (ErrorUnit reference cause unit)) = Some (record { reference = reference; cause = number_of cause })
refusal_of_unit (Ok (Smma reference)) = None
refusal_of_unit (Err fault) = None

-- it answers only what this side began
abbrev pub refusal_to : TransactionFlag → List ℕ → Option Refusal
refusal_to FromOriginator unit = None
refusal_to ToOriginator unit = refusal_of_unit (up_at unit)

abbrev pub refusal_of_frame : Result Cp CpFault → Option Refusal
refusal_of_frame (Ok (CpData transaction unit)) = refusal_to transaction.flag unit
refusal_of_frame (Ok (CpAck transaction)) = None
refusal_of_frame (Ok (CpError transaction cause)) = None
refusal_of_frame (Err fault) = None

-- ---- what it refuses

-- a status report and a notice of memory are no message's parts
abbrev pub refused_part : Holder → ℕ → Option RefusedPart
refused_part (Part id number) cause = Some (record { id = id; cause = cause })
refused_part (Report id) cause = None
refused_part (Entry number) cause = None
refused_part (Memory number) cause = None

-- what is under way, if that has its reference
abbrev pub refused_of : Refusal → Option Carried → Option RefusedPart
refused_of refusal None = None
refused_of refusal (Some transfer) = if transfer.reference == refusal.reference then refused_part transfer.tag refusal.cause else None

-- ---- over which link

-- what is under way to the handset, if it is one
abbrev pub under_way_for : Core → Option (List ℕ) → Option Carried
under_way_for c None = None
under_way_for c (Some handset) = if is_number handset then (link_of handset c.links).near_end.under_way else None

-- what is under way over the link at the seat, if one is there
abbrev pub under_way_at : Core → List LinkSeat → ℕ → Option Carried
under_way_at c links seat = under_way_for c (handset_at seat links)

-- a hub has 32 seats
abbrev pub refused_at : Core → List LinkSeat → ℕ → Refusal → Option RefusedPart
refused_at c links seat refusal = if nat_lt seat 32 then refused_of refusal (under_way_at c links seat) else None

abbrev pub refused_if : Core → List LinkSeat → ℕ → Option Refusal → Option RefusedPart
refused_if c links seat None = None
refused_if c links seat (Some refusal) = refused_at c links seat refusal

-- ---- by what a seat asks

abbrev pub refused_by_job : Core → List LinkSeat → ℕ → Job → Option RefusedPart
refused_by_job c links seat (Bound account receives) = None
refused_by_job c links seat Unbound = None
refused_by_job c links seat (Submit account pdu) = None
refused_by_job c links seat (Query account pdu) = None
refused_by_job c links seat (Cancel account pdu) = None
refused_by_job c links seat (DeliverAnswered id is_accepted) = None
refused_by_job c links seat (LinkUp handset) = None
refused_by_job c links seat LinkDown = None
refused_by_job c links seat (Frame octets) = refused_if c links seat (refusal_of_frame (cp_at octets))

-- the centre and its links are those from before the stimulus
abbrev pub part_refused_by : Core → List LinkSeat → Stimulus Job → Option RefusedPart
part_refused_by c links (Tick now) = None
part_refused_by c links (Own errand) = None
part_refused_by c links (JobOf seat job) = refused_by_job c links seat job
