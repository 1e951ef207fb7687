use Rattle.std.proofs.Common.{sym, subst}
use Rattle.sms_centre.specs.state.CentreState.{CentreStateOf, Represents as StateRepresents}
use Rattle.sms_centre.proofs.forgetting.forget_all.Goals as goal

pub returns-in-Ok-clause-plan : goal.returns-in-Ok-clause-plan
returns-in-Ok-clause-plan c = λ before from most core represents stands are.
    let s : CentreStateOf = record { setup = c.state.inside.setup; moment = c.state.inside.moment; messages = c.state.inside.messages; reference_index = c.state.inside.reference_index; queues = c.state.inside.queues; reports = c.state.inside.reports; log = c.state.inside.log; sessions = c.state.inside.sessions } in
    let was : StateRepresents core s = subst (λ (x : CentreStateOf). StateRepresents core x) (sym c.state.view_is) stands in
    c.in-Ok.ensures before from most core was.centre.sound represents are was.log

pub returns-in-Ok-clause-bars : goal.returns-in-Ok-clause-bars
returns-in-Ok-clause-bars c = λ core stands. c.in_ok-bars.ensures core stands
