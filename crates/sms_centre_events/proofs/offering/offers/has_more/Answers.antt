use Rattle.std.proofs.Common.{ℕ, sym, ◌∙◌, ap, subst}
use Rattle.sms_centre_rows.specs.waiting.Waiting.{waits_beside}
use Rattle.sms_centre_spec.specs.Draft.{waiting_in}
use Rattle.sms_centre_draft.specs.CentreDraft.{Represents, CentreDraftOf, all_waiting}
use Rattle.sms_centre_events.proofs.offering.offers.has_more.Goals as goal

pub returns : goal.returns
returns c = λ d represents.
    let w : CentreDraftOf = record { setup = c.draft.inside.setup.now; moment = c.draft.inside.moment; messages = c.draft.inside.messages; queues = c.draft.inside.queues; reports = c.draft.inside.reports; bindings = c.draft.inside.bindings; answer = c.draft.inside.answer } in
    let was : Represents d w = subst (λ (x : CentreDraftOf). Represents d x) (sym c.draft.view_is) represents in
    c.waits_beside.ensures d.store.allocations d.links (all_waiting d.store) was.queues ∙ ap (λ (n : ℕ). waits_beside n c.args.queued.now (waiting_in c.args.handset.now d.store)) (c.now.ensures d represents)
