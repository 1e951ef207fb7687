-- The codes of what stops a plan, in reports.
use Rattle.std.specs.Prelude.{ℕ, List, Option, Some, None, codes}
use Rattle.sms_centre_spec.specs.declared.plan_error.PlanError.{PlanError}
use Rattle.sms_centre_spec.specs.declared.plan_error.PlanError.TheVariants.{NoBody, NoMemory}

abbrev pub plan_code : PlanError → Option (List ℕ)
plan_code NoBody = Some (codes "E2")
plan_code NoMemory = None
