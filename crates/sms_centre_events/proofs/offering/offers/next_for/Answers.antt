use Rattle.std.proofs.Common.{ℕ, None, sym, ◌∙◌, ap, subst}
use Rattle.std.proofs.lemmas.Bool.{cond-false, cond-true}
use Rattle.sms_centre_rows.specs.waiting.Links.{is_ready, link_of}
use Rattle.sms_centre_rows.specs.waiting.Waiting.{next}
use Rattle.sms_centre_spec.specs.Draft.{waiting_in}
use Rattle.sms_centre_draft.specs.CentreDraft.{Represents, CentreDraftOf, all_waiting}
use Rattle.sms_centre_events.proofs.offering.offers.next_for.Goals as goal

pub returns-then-not-is_ready : goal.returns-then-not-is_ready
returns-then-not-is_ready c = λ d represents.
    let w : CentreDraftOf = record { setup = c.draft.inside.setup.now; moment = c.draft.inside.moment; messages = c.draft.inside.messages; queues = c.draft.inside.queues; reports = c.draft.inside.reports; bindings = c.draft.inside.bindings; answer = c.draft.inside.answer } in
    let was : Represents d w = subst (λ (x : CentreDraftOf). Represents d x) (sym c.draft.view_is) represents in
    let ready = c.is_ready.ensures d.store.allocations d.links (all_waiting d.store) was.queues in
    sym (cond-false (is_ready (link_of c.args.handset.now d.links.all)) (next d.store.moment (waiting_in c.args.handset.now d.store)) None (sym ready ∙ c.if-not-is_ready.true))

pub returns : goal.returns
returns c = λ d represents.
    let w : CentreDraftOf = record { setup = c.draft.inside.setup.now; moment = c.draft.inside.moment; messages = c.draft.inside.messages; queues = c.draft.inside.queues; reports = c.draft.inside.reports; bindings = c.draft.inside.bindings; answer = c.draft.inside.answer } in
    let was : Represents d w = subst (λ (x : CentreDraftOf). Represents d x) (sym c.draft.view_is) represents in
    let ready = c.is_ready.ensures d.store.allocations d.links (all_waiting d.store) was.queues in
    c.next.ensures d.store.allocations d.links (all_waiting d.store) was.queues ∙ ap (λ (n : ℕ). next n (waiting_in c.args.handset.now d.store)) (c.now.ensures d represents)
    ∙ sym (cond-true (is_ready (link_of c.args.handset.now d.links.all)) (next d.store.moment (waiting_in c.args.handset.now d.store)) None (sym ready ∙ c.if-not-is_ready.false))
