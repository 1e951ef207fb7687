use Rattle.std.proofs.Common.{sym, subst}
use Rattle.sms_centre_spec.specs.Draft.{messages_in}
use Rattle.sms_centre_draft.specs.CentreDraft.{Represents, CentreDraftOf}
use Rattle.sms_centre_draft.proofs.Sending.{sent_represented}
use Rattle.sms_centre_draft.proofs.centre_draft.CentreDraft.send.Goals as goal

pub returns : goal.returns
returns c = λ d represents.
    let w : CentreDraftOf = record { setup = c.self.inside.setup.now; moment = c.self.inside.moment; messages = c.self.inside.messages; queues = c.self.inside.queues; reports = c.self.inside.reports; bindings = c.self.inside.bindings; answer = c.self.inside.answer } in
    let was : Represents d w = subst (λ (x : CentreDraftOf). Represents d x) (sym c.self.view_is) represents in
    sent_represented d w c.send.new.self was (c.in_ok-send.ensures (messages_in d.store) d.store.reports was.reports)
