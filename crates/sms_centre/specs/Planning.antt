-- A plan as it is in memory, and the memory that it brings.
use Rattle.std.specs.Prelude.{◌≡◌, ℕ, length, Bool, None, Result, Ok, Err}
use Rattle.sms_rows.specs.keep.KeepState.{KeepState}
use Rattle.sms_rows.specs.keep.StoreOutcome.{IfHeld}
use Rattle.sms_centre_spec.specs.declared.event.CentreEvent.{CentreEvent}
use Rattle.sms_centre_spec.specs.declared.plan_error.PlanError.{PlanError}
use Rattle.sms_centre_spec.specs.declared.plan_error.PlanError.TheVariants.{NoBody, NoMemory}
use Rattle.sms_centre_spec.specs.CentreEvent.{happened}
use Rattle.sms_centre_spec.specs.Draft.{Core}
use Rattle.sms_centre_spec.specs.Planning.{outcome_of, plan_of}
use Rattle.sms_centre_events.specs.offering.Refusing.{answers_but}
use Rattle.sms_centre_reports.specs.report_log.ReportLog.{LogReserve, Suffices}
use Rattle.sms_centre.specs.declared.plans.event_outcome.EventOutcome.{EventOutcome}
use Rattle.sms_centre.specs.plans.EventOutcome.{FitsIn, IsOutcome}
use Rattle.sms_centre.specs.state.CentreState.{CentreStateOf}

pub record PlanOf : Type 0 where
  -- what is changed, what leaves, and what is in memory after it
  pub plan : EventOutcome
  -- memory for its reports
  pub log : LogReserve

-- it can be put in without taking memory
pub record FitsTheCentre (s : CentreStateOf) (p : PlanOf) : Type 0 where
  pub plan : FitsIn s.messages s.reference_index p.plan
  pub log : Suffices (length p.plan.changes.reports) s.log p.log

-- The plan is that of the event with a store that answers these reads; or nothing is planned; or there was no memory for it.
abbrev pub PlansEvent : (ℕ → Bool) → CentreEvent → Core → Result PlanOf PlanError → Type 0
PlansEvent answers event c (Ok p) = (plan_of answers event c ≡ Ok (outcome_of (happened event c))) × IsOutcome (happened event c) p.plan
PlansEvent answers event c (Err NoBody) = plan_of answers event c ≡ Err NoBody
PlansEvent answers event c (Err NoMemory) = plan_of answers event c ≡ Ok (outcome_of (happened event c))

-- So it is planned over a store which is honest, had these rows, and had refused no read. It has all the answers of that store but to the
-- read that it refused.
abbrev pub DefinedOutcome : {Rows : Type 0} → CentreEvent → Core → Rows → KeepState Rows → KeepState Rows → Result PlanOf PlanError → Type 0
DefinedOutcome event c rows before after result =
    IfHeld rows before after (before.refusals.read ≡ None → PlansEvent (answers_but after.refusals.read) event c result)
