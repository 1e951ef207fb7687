use Rattle.std.proofs.Common.{subst}
use Rattle.std.specs.Prelude.{IfOk}
use Rattle.sms_centre.specs.state.CentreState.{CentreStateOf}
use Rattle.sms_centre.specs.Planning.{FitsTheCentre, PlanOf}
use Rattle.sms_centre.proofs.Registered.{with_plan, with_room}
use Rattle.sms_centre.proofs.finishing.planned.Goals as goal

pub returns-clause-plan : goal.returns-clause-plan
returns-clause-plan c = λ d represents bars. with_plan d c.in_ok-plan.plan c.with_log.result (c.in_ok-plan.ensures.plans d represents bars) c.with_log.ensures.plan

pub returns-clause-fits : goal.returns-clause-fits
returns-clause-fits c =
    let s : CentreStateOf = record { setup = c.centre_state.inside.setup; moment = c.centre_state.inside.moment; messages = c.centre_state.inside.messages; reference_index = c.centre_state.inside.reference_index; queues = c.centre_state.inside.queues; reports = c.centre_state.inside.reports; log = c.centre_state.inside.log; sessions = c.centre_state.inside.sessions } in
    subst (λ (x : CentreStateOf). IfOk c.with_log.result (λ (p : PlanOf). FitsTheCentre x p)) c.centre_state.view_is
    (with_room s c.in_ok-plan.plan c.len.result c.make_reserve-log.result c.with_log.result c.in_ok-plan.ensures.fits c.len.ensures c.make_reserve-log.ensures c.with_log.ensures.plan c.with_log.ensures.log)
