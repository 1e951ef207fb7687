use Rattle.std.proofs.Common.{◌≡◌, List, Ok, sym, ◌∙◌, ap, subst}
use Rattle.std.specs.Prelude.{IfOk, Result}
use Rattle.sms_centre_events.proofs.offering.OneOffer.{unless_alike}
use Rattle.sms_centre.specs.plans.EventOutcome.{IsOutcome}
use Rattle.sms_centre.specs.Planning.{PlanOf}
use Rattle.std.specs.declared.alloc.AllocError.{AllocError}
use Rattle.sms_centre.proofs.finishing.plan.Goals as goal
use Rattle.sms_rows.specs.declared.table.change.Change.{Change}
use Rattle.sms_rows.specs.table.Since.{oldest_first as changes_of}
use Rattle.sms_centre_rows.specs.declared.messages.bar.BarRow.{BarRow}

pub returns-clause-plan : goal.returns-clause-plan
returns-clause-plan c = λ d represents none.
    unless_alike (λ (p : PlanOf). c.planned.result ≡ Ok p) (λ (p : PlanOf). IsOutcome d p.plan) c.unless_memory.result
    (λ p e. subst (λ (r : Result PlanOf AllocError). IfOk r (λ (x : PlanOf). IsOutcome d x.plan)) e (c.planned.ensures.plan d represents (c.new-bars.ensures ∙ ap (λ (l : List (Change BarRow)). changes_of l) (sym none)))) c.unless_memory.ensures.plan
