use Rattle.std.proofs.Common.{sym, subst}
use Rattle.sms_centre_spec.specs.Draft.{messages_in}
use Rattle.sms_centre_draft.specs.CentreDraft.{Represents, CentreDraftOf}
use Rattle.sms_centre_draft.proofs.FoundOpen.{no_status_open}
use Rattle.sms_centre_draft.proofs.centre_draft.CentreDraft.open_status.Goals as goal

pub returns-in-Some : goal.returns-in-Some
returns-in-Some c = λ d represents.
    let w : CentreDraftOf = record { setup = c.self.inside.setup.now; moment = c.self.inside.moment; messages = c.self.inside.messages; queues = c.self.inside.queues; reports = c.self.inside.reports; bindings = c.self.inside.bindings; answer = c.self.inside.answer } in
    let was : Represents d w = subst (λ (x : CentreDraftOf). Represents d x) (sym c.self.view_is) represents in
    c.status_of.ensures d c.args.id represents (c.in-Some.ensures (messages_in d.store) d.store.reports was.reports)

pub returns-in-None : goal.returns-in-None
returns-in-None c = λ d represents.
    let w : CentreDraftOf = record { setup = c.self.inside.setup.now; moment = c.self.inside.moment; messages = c.self.inside.messages; queues = c.self.inside.queues; reports = c.self.inside.reports; bindings = c.self.inside.bindings; answer = c.self.inside.answer } in
    let was : Represents d w = subst (λ (x : CentreDraftOf). Represents d x) (sym c.self.view_is) represents in
    no_status_open c.args.id d.store (c.in-None.ensures (messages_in d.store) d.store.reports was.reports)
