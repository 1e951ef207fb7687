use Rattle.std.proofs.Common.{sym, subst}
use Rattle.sms_centre.specs.state.CentreState.{CentreStateOf, Represents as StateRepresents}
use Rattle.sms_centre.proofs.MayGo.{few_parts}
use Rattle.sms_centre.proofs.barring.add_found.Goals as goal

pub returns : goal.returns
returns c = λ core stands.
    let s : CentreStateOf = record { setup = c.state.inside.setup; moment = c.state.inside.moment; messages = c.state.inside.messages; reference_index = c.state.inside.reference_index; queues = c.state.inside.queues; reports = c.state.inside.reports; log = c.state.inside.log; sessions = c.state.inside.sessions } in
    let was : StateRepresents core s = subst (λ (x : CentreStateOf). StateRepresents core x) (sym c.state.view_is) stands in
    c.add_claims-added.ensures core.rows.messages core.rows.parts was.centre.messages_are (few_parts core was.centre.sound)
