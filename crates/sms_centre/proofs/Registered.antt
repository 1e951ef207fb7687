-- A plan with memory for its reports.
use Rattle.std.proofs.Common.{◌≡◌, ℕ, length, Result, Ok, Err, sym, subst}
use Rattle.std.specs.Prelude.{IfOk}
use Rattle.std.specs.declared.alloc.AllocError.{AllocError}
use Rattle.sms_centre_reports.specs.report_log.ReportLog.{LogReserve, Suffices}
use Rattle.sms_centre_spec.specs.Draft.{Draft}
use Rattle.sms_centre.specs.declared.plans.event_outcome.EventOutcome.{EventOutcome}
use Rattle.sms_centre.specs.plans.EventOutcome.{FitsIn, IsOutcome}
use Rattle.sms_centre.specs.state.CentreState.{CentreStateOf}
use Rattle.sms_centre.specs.Planning.{FitsTheCentre, PlanOf}

pub with_plan : (d : Draft) (plan : EventOutcome) (r : Result PlanOf AllocError) → IsOutcome d plan → IfOk r (λ (p : PlanOf). p.plan ≡ plan) → IfOk r (λ (p : PlanOf). IsOutcome d p.plan)
with_plan d plan (Ok p) is same = subst (λ (x : EventOutcome). IsOutcome d x) (sym same) is
with_plan d plan (Err e) is same = tt

pub with_room : (s : CentreStateOf) (plan : EventOutcome) (n : ℕ) (made : Result LogReserve AllocError) (r : Result PlanOf AllocError) → FitsIn s.messages s.reference_index plan → n ≡ length plan.changes.reports
    → IfOk made (λ (reserve : LogReserve). Suffices n s.log reserve) → IfOk r (λ (p : PlanOf). p.plan ≡ plan) → IfOk r (λ (p : PlanOf). made ≡ Ok p.log) → IfOk r (λ (p : PlanOf). FitsTheCentre s p)
with_room s plan n made (Ok p) fits count room same has = record {
  plan = subst (λ (x : EventOutcome). FitsIn s.messages s.reference_index x) (sym same) fits;
  log = subst (λ (x : EventOutcome). Suffices (length x.changes.reports) s.log p.log) (sym same)
      (subst (λ (k : ℕ). Suffices k s.log p.log) count
      (subst (λ (m : Result LogReserve AllocError). IfOk m (λ (reserve : LogReserve). Suffices n s.log reserve)) has room));
}
with_room s plan n made (Err e) fits count room same has = tt
