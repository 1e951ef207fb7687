use Rattle.std.proofs.Common.{ℕ, List, sym, subst}
use Rattle.sms_centre_spec.specs.Draft.{Draft}
use Rattle.sms_centre_events.specs.offering.Refusing.{SucceedsOrRefuses}
use Rattle.sms_centre_events.specs.offering.Stored.{CanOffer}
use Rattle.sms_centre.specs.plans.EventOutcome.{IsOutcome}
use Rattle.sms_centre.specs.state.CentreState.{Represents, CentreStateOf}
use Rattle.sms_centre.specs.Acting.{acted}
use Rattle.sms_centre.proofs.ActsFirst.{acts_then_follows, can_offer}
use Rattle.sms_centre.proofs.AsDefined.{plans_event}
use Rattle.sms_centre.proofs.centre.Centre.plan.Goals as goal

pub returns-clause-outcome : goal.returns-clause-outcome
returns-clause-outcome g c = λ core rows centre_state stores honest holds.
    let event = c.args.event.now in
    let was : Represents core c.self.inside.centre_state = subst (λ (s : CentreStateOf). Represents core s) (sym c.self.view_is) centre_state in
    subst (λ (d : Draft). SucceedsOrRefuses (λ p. IsOutcome d p.plan) d.links.read ((g.B.RowStore.state c.plan_of.new.bodies).holds rows) (g.B.RowStore.state c.plan_of.new.bodies).is_closed (g.B.RowStore.state c.args.bodies.now).refusals (g.B.RowStore.state c.plan_of.new.bodies).refusals c.plan_of.result)
    (sym (acts_then_follows event core))
    (c.plan_of.ensures.outcome core rows was
    (subst (λ (o : List ℕ). CanOffer g.B.BodyKeep.body_of rows o (acted event core).store) (sym c.as_slice.ensures)
    (can_offer g.B.BodyKeep.body_of rows event core c.self.inside.centre_state c.self.inside.address was c.is_event.ensures stores c.self.invariant.1)) honest holds)

pub returns-clause-definition : goal.returns-clause-definition
returns-clause-definition g c = λ core rows centre_state stores honest holds none.
    plans_event c.args.event.now core ((g.B.RowStore.state c.plan_of.new.bodies).holds rows) (g.B.RowStore.state c.plan_of.new.bodies).is_closed (g.B.RowStore.state c.args.bodies.now).refusals (g.B.RowStore.state c.plan_of.new.bodies).refusals c.plan_of.result
    (returns-clause-outcome g c core rows centre_state stores honest holds) none
