use Rattle.std.proofs.Common.{Option, sym, ◌∙◌, ap, subst, refl, inr}
use Rattle.sms_centre_rows.specs.declared.waiting.queued_part.QueuedPart.{QueuedPart}
use Rattle.sms_centre_spec.specs.Draft.{Draft}
use Rattle.sms_centre_draft.specs.CentreDraft.{Represents}
use Rattle.sms_centre_events.specs.offering.Refusing.{SucceedsOrRefuses}
use Rattle.sms_centre_events.specs.offering.Offered.{offer_next}
use Rattle.sms_centre_events.proofs.offering.OneOffer.{next_among, offer_is_next}
use Rattle.sms_centre_events.proofs.offering.offers.offer_at.Goals as goal

pub returns-in-Some-clause-outcome : goal.returns-in-Some-clause-outcome
returns-in-Some-clause-outcome g c = λ d rows represents can honest holds.
    let next = c.in-Some.ensures d represents in
    subst (λ (x : Draft). SucceedsOrRefuses (λ (u : Unit {0}). Represents x c.offer_queued.new.draft) x.links.read ((g.B.RowStore.state c.offer_queued.new.bodies).holds rows) (g.B.RowStore.state c.offer_queued.new.bodies).is_closed (g.B.RowStore.state c.args.bodies.now).refusals (g.B.RowStore.state c.offer_queued.new.bodies).refusals c.offer_queued.result)
    (sym (offer_is_next c.args.handset d ∙ ap (λ (o : Option QueuedPart). offer_next c.args.handset o d) (sym next)))
    (c.offer_queued.ensures.outcome d rows represents can (next_among c.args.handset c.in-Some.queued d (sym next)) honest holds)

pub returns-in-None-clause-outcome : goal.returns-in-None-clause-outcome
returns-in-None-clause-outcome g c = λ d rows represents can honest holds.
    let next = c.in-None.ensures d represents in
    (subst (λ (x : Draft). Represents x c.args.draft.now) (sym (offer_is_next c.args.handset d ∙ ap (λ (o : Option QueuedPart). offer_next c.args.handset o d) (sym next))) represents, (holds, inr refl))
