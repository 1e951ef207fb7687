use Rattle.std.proofs.Common.{sym, subst}
use Rattle.sms_centre.specs.state.CentreState.{CentreStateOf, Represents}
use Rattle.sms_centre_draft.specs.Beginning.{all_of}
use Rattle.sms_centre.proofs.state.centre_state.CentreState.figures.Goals as goal

pub returns : goal.returns
returns c = λ core represents.
    let s : CentreStateOf = record { setup = c.self.inside.setup; moment = c.self.inside.moment; messages = c.self.inside.messages; reference_index = c.self.inside.reference_index; queues = c.self.inside.queues; reports = c.self.inside.reports; log = c.self.inside.log; sessions = c.self.inside.sessions } in
    let was : Represents core s = subst (λ (x : CentreStateOf). Represents core x) (sym c.self.view_is) represents in
    c.figures.ensures core.rows.handsets core.rows.references core.links (all_of core.rows) was.centre.queues_are
