use Rattle.std.proofs.Common.{ℕ, List, ◌∙◌, sym, ap, subst, refl, inr}
use Rattle.sms_centre_queue.specs.declared.queues.concern.ConcernedHandset.{ConcernedHandset}
use Rattle.sms_centre_queue.specs.declared.queues.concern.Concern.TheVariants.{Offer}
use Rattle.sms_centre_queue.specs.queues.Walks.{walk}
use Rattle.sms_centre_spec.specs.Draft.{Draft}
use Rattle.sms_centre_draft.specs.walks.Stepping.{offer_at, stops_in}
use Rattle.sms_centre_draft.specs.CentreDraft.{Represents}
use Rattle.sms_centre_events.specs.offering.Refusing.{SucceedsOrRefuses}
use Rattle.sms_centre_events.proofs.offering.following.offer.Goals as goal

pub returns-in-Ok-clause-outcome : goal.returns-in-Ok-clause-outcome
returns-in-Ok-clause-outcome g c = λ d rows represents can honest holds.
    let found = c.as_slice.ensures.value ∙ c.in-Ok.ensures d represents ∙ ap (λ (n : ℕ). stops_in (Offer n) d) (c.now-now.ensures d represents) in
    subst (λ (x : Draft). SucceedsOrRefuses (λ (u : Unit {0}). Represents x c.offer_each.new.draft) x.links.read ((g.B.RowStore.state c.offer_each.new.bodies).holds rows) (g.B.RowStore.state c.offer_each.new.bodies).is_closed (g.B.RowStore.state c.args.bodies.now).refusals (g.B.RowStore.state c.offer_each.new.bodies).refusals c.offer_each.result)
    (ap (λ (ss : List ConcernedHandset). walk offer_at ss d) found ∙ sym (c.offers_concern_those_found.ensures d represents.consistent.held.allocations))
    (c.offer_each.ensures.outcome d rows represents can honest holds)

pub returns-in-Err-clause-outcome : goal.returns-in-Err-clause-outcome
returns-in-Err-clause-outcome g c = λ d rows represents can honest holds. (holds, inr refl)
