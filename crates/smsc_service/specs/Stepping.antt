-- What a step of a centre over its store does.
use Rattle.std.specs.Prelude.{◌≡◌, ◌⊎◌, Result, Ok, Err}
use Rattle.sms_centre_spec.specs.declared.plan_error.PlanError.{PlanError}
use Rattle.sms_centre_spec.specs.declared.plan_error.PlanError.TheVariants.{NoBody as NoPlanBody, NoMemory as NoPlanMemory}
use Rattle.sms_centre_spec.specs.Draft.{Draft}
use Rattle.sms_rows.specs.keep.KeepState.{KeepState}
use Rattle.sms_rows.specs.keep.Refusing.{one_more}
use Rattle.sms_rows.specs.keep.StoreOutcome.{IfHeld}
use Rattle.sms_rows.specs.declared.keep.refusals.Refusals.{Refusals}
use Rattle.sms_centre.specs.plans.EventOutcome.{IsOutcome}
use Rattle.sms_centre.specs.Planning.{PlanOf}
use Rattle.smsc_service.specs.declared.step_error.StepError.{StepError}
use Rattle.smsc_service.specs.declared.step_error.StepError.TheVariants.{NoMemory, NoBody, Store}

-- the same cause
abbrev pub step_error_of : PlanError → StepError
step_error_of NoPlanBody = NoBody
step_error_of NoPlanMemory = NoMemory

-- between these two the store refused a call, and one alone
abbrev pub OneRefused : Refusals → Refusals → Type 0
OneRefused before after = after.calls ≡ one_more before.calls

-- The plan is that of the draft, and the store holds its rows. Or there was no memory, and it holds them. Or it refused a read, and it
-- holds them or is closed. It refused nothing else. Nothing was to be committed yet.
abbrev pub PlansStep : Type 0 → Type 0 → Refusals → Refusals → Draft → Result PlanOf StepError → Type 0
PlansStep held closed before after d (Ok p) = IsOutcome d p.plan × (held × (after.calls ≡ before.calls))
PlansStep held closed before after d (Err NoMemory) = held × (after.calls ≡ before.calls)
PlansStep held closed before after d (Err NoBody) = (held ⊎ closed) × OneRefused before after
PlansStep held closed before after d (Err (Store error)) = ⊥

-- So ends the plan of a step, if the store is honest, and had these rows before.
abbrev pub PlanningOutcome : {Rows : Type 0} → Rows → KeepState Rows → KeepState Rows → Draft → Result PlanOf StepError → Type 0
PlanningOutcome rows before after d result =
    IfHeld rows before after (PlansStep (after.holds rows) after.is_closed before.refusals after.refusals d result)
