use Rattle.std.proofs.Common.{refl, sym, subst}
use Rattle.sms_centre_draft.specs.CentreDraft.{Represents, CentreDraftOf}
use Rattle.sms_centre.proofs.plans.settling.settle.Goals as goal

pub returns-in-Ok-clause-plans : goal.returns-in-Ok-clause-plans
returns-in-Ok-clause-plans c = λ d represents bars.
    let w : CentreDraftOf = record { setup = c.draft.inside.setup.now; moment = c.draft.inside.moment; messages = c.draft.inside.messages; queues = c.draft.inside.queues; reports = c.draft.inside.reports; bindings = c.draft.inside.bindings; answer = c.draft.inside.answer } in
    let was : Represents d w = subst (λ (x : CentreDraftOf). Represents d x) (sym c.draft.view_is) represents in
    let settled = c.in-Ok.ensures in
    c.planned.ensures.plans d w was refl (settled.settled d.store.messages was.messages) settled.queues settled.references settled.handsets settled.frames refl refl refl bars
