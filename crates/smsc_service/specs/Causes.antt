-- By which cause a handset refused what was delivered to it: its RP-ERROR in a CP-DATA (3GPP TS 24.011 7.3.4, 8.2.5.4).
use Rattle.std.specs.Prelude.{ℕ, List, Option, Some, None, Result, Ok, Err}
use Rattle.sms_centre_spec.specs.declared.jobs.job.Job.{Job}
use Rattle.sms_centre_spec.specs.declared.jobs.job.Job.TheVariants.{Bound, Unbound, Submit, Query, Cancel, DeliverAnswered, LinkUp, LinkDown, Frame}
use Rattle.sms_control.specs.ControlReading.{cp_at}
use Rattle.sms_control.specs.declared.fault.CpFault.{CpFault}
use Rattle.sms_control.specs.declared.message.Cp.{Cp}
use Rattle.sms_control.specs.declared.message.Cp.TheVariants.{DataUnit as CpData, AckUnit as CpAck, ErrorUnit as CpError}
use Rattle.sms_keeper.specs.declared.machine.Stimulus.{Stimulus}
use Rattle.sms_keeper.specs.declared.machine.Stimulus.TheVariants.{Job as JobOf, Tick, Own}
use Rattle.sms_relay.specs.Cause.{number_of}
use Rattle.sms_relay.specs.RelayReading.{up_at}
use Rattle.sms_relay.specs.declared.fault.RelayFault.{RelayFault}
use Rattle.sms_relay.specs.declared.frame.Rp.{Rp}
use Rattle.sms_relay.specs.declared.frame.Rp.TheVariants.{DataUnit, AckUnit, ErrorUnit, Smma}

-- the cause of a unit that is an RP-ERROR
abbrev pub cause_of_unit : Result Rp RelayFault → Option ℕ
cause_of_unit (Ok (DataUnit reference centre unit)) = None
cause_of_unit (Ok (AckUnit reference unit)) = None
cause_of_unit (Ok (ErrorUnit reference cause unit)) = Some (number_of cause)
cause_of_unit (Ok (Smma reference)) = None
cause_of_unit (Err fault) = None

-- the cause of an RP-ERROR that the frame brings
abbrev pub cause_of_frame : Result Cp CpFault → Option ℕ
cause_of_frame (Ok (CpData transaction unit)) = cause_of_unit (up_at unit)
cause_of_frame (Ok (CpAck transaction)) = None
cause_of_frame (Ok (CpError transaction cause)) = None
cause_of_frame (Err fault) = None

abbrev pub cause_of_job : Job → Option ℕ
cause_of_job (Bound account receives) = None
cause_of_job Unbound = None
cause_of_job (Submit account pdu) = None
cause_of_job (Query account pdu) = None
cause_of_job (Cancel account pdu) = None
cause_of_job (DeliverAnswered id is_accepted) = None
cause_of_job (LinkUp handset) = None
cause_of_job LinkDown = None
cause_of_job (Frame octets) = cause_of_frame (cp_at octets)

abbrev pub cause_told_by : Stimulus Job → Option ℕ
cause_told_by (Tick now) = None
cause_told_by (Own errand) = None
cause_told_by (JobOf seat job) = cause_of_job job
