-- plan_begun
use Rattle.std.proofs.Common.{inr, refl}
use Rattle.sms_centre_spec.specs.CentreEvent.{follow}
use Rattle.sms_centre.proofs.ActsFirst.{acted_bars}
use Rattle.sms_centre.specs.Acting.{acted}
use Rattle.sms_centre.specs.Planning.{PlanOf}
use Rattle.sms_centre_events.proofs.offering.OneOffer.{goes_off, goes_on}
use Rattle.sms_centre.specs.plans.EventOutcome.{IsOutcome}
use Rattle.sms_centre_draft.specs.CentreDraft.{Represents}
use Rattle.sms_centre.proofs.finishing.plan_begun.Goals as goal

pub returns-in-Ok-clause-outcome : goal.returns-in-Ok-clause-outcome
returns-in-Ok-clause-outcome g c = λ core rows represents centre_state can honest holds.
    let d = acted c.args.event.now core in
    let goes = c.in-Ok.ensures.outcome core rows represents centre_state can honest holds in
    goes_on (λ (p : PlanOf). IsOutcome (follow d) p.plan) (follow d).links.read ((g.B.RowStore.state c.run.new.bodies).holds rows) (g.B.RowStore.state c.run.new.bodies).is_closed (g.B.RowStore.state c.args.bodies.now).refusals (g.B.RowStore.state c.run.new.bodies).refusals c.plan.result (c.plan.ensures.plan (follow d) goes.0 (acted_bars c.args.event.now core)) goes.1.0 goes.1.1

pub returns-in-Err-clause-outcome : goal.returns-in-Err-clause-outcome
returns-in-Err-clause-outcome g c = λ core rows represents centre_state can honest holds.
    let d = acted c.args.event.now core in
    goes_off (λ (u : Unit {0}). Represents (follow d) c.run.new.draft) (λ (p : PlanOf). IsOutcome (follow d) p.plan) (follow d).links.read (follow d).links.read ((g.B.RowStore.state c.run.new.bodies).holds rows) (g.B.RowStore.state c.run.new.bodies).is_closed
    (g.B.RowStore.state c.args.bodies.now).refusals (g.B.RowStore.state c.args.bodies.now).refusals (g.B.RowStore.state c.run.new.bodies).refusals c.in-Err.error (inr refl) (λ k a. a) (c.in-Err.ensures.outcome core rows represents centre_state can honest holds)
