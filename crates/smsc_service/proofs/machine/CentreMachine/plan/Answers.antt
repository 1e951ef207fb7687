use Rattle.std.proofs.Common.{◌≡◌, Err, refl, sym, subst}
use Rattle.sms_centre_group.specs.Grouping.{group_state, held_in}
use Rattle.sms_centre_spec.specs.CentreEvent.{happened}
use Rattle.smsc_service.specs.declared.step_error.StepError.{StepError}
use Rattle.smsc_service.specs.Stepping.{PlansStep}
use Rattle.smsc_service.proofs.Stepped.{goes_back, goes_on, stored}
use Rattle.smsc_service.proofs.machine.CentreMachine.plan.Goals as goal

pub returns-in-Ok-clause-outcome : goal.returns-in-Ok-clause-outcome
returns-in-Ok-clause-outcome g c = λ core base centre_state sound is honest holds.
    let held = held_in c.args.self.now.keep in let group = group_state g.K.RowStore.state c.plan.new.bodies in
    goes_on (happened c.args.event.now core) (happened c.args.event.now core).links.read (group.holds (base, held)) group.is_closed _ _ c.in-Ok.planned
    (c.in-Ok.ensures.outcome core (base, held) centre_state (stored g.K.BodyKeep.body_of g.met.K.CentreStore.stores base held core.rows sound centre_state.centre.sound.rows is) honest holds)

pub returns-in-Err-clause-outcome : goal.returns-in-Err-clause-outcome
returns-in-Err-clause-outcome g c = λ core base centre_state sound is honest holds.
    let held = held_in c.args.self.now.keep in let group = group_state g.K.RowStore.state c.plan.new.bodies in
    subst (λ (e : StepError). PlansStep (group.holds (base, held)) group.is_closed c.args.self.now.keep.refusals c.plan.new.bodies.refusals (happened c.args.event.now core) (Err e)) (sym c.step_error_of.ensures)
    (goes_back (happened c.args.event.now core) (happened c.args.event.now core).links.read (group.holds (base, held)) group.is_closed _ _ c.in-Err.error
    (c.in-Err.ensures.outcome core (base, held) centre_state (stored g.K.BodyKeep.body_of g.met.K.CentreStore.stores base held core.rows sound centre_state.centre.sound.rows is) honest holds))
