use Rattle.std.proofs.Common.{◌+◌, refl, drop, arith, subst, sym, inr}
use Rattle.sms_base.proofs.Lists.{drop_item}
use Rattle.sms_centre_draft.specs.CentreDraft.{Represents}
use Rattle.sms_centre_queue.specs.queues.Walks.{walk}
use Rattle.sms_centre_draft.specs.walks.Stepping.{offer_at}
use Rattle.sms_centre_spec.specs.Draft.{Store}
use Rattle.sms_centre_events.specs.offering.Stored.{CanOffer}
use Rattle.sms_centre_events.proofs.offering.OneOffer.{goes_off}
use Rattle.sms_centre_events.proofs.offering.Walking.{left_next, reads_last}
use Rattle.sms_centre_events.proofs.offering.following.offer_each.Goals as goal

pub loop-stop-init : goal.loop-stop-init
loop-stop-init g c = ((λ honest. honest), λ d rows represents can honest holds. record { draft = d; represents = represents; same = refl; goes = refl; holds = holds; none = inr refl })

pub loop-stop-preserved : goal.loop-stop-preserved
loop-stop-preserved g c = (
  (λ honest. c.loop-stop.invariant.0 (c.in-Ok.ensures.before honest)),
  λ d rows represents can honest holds.
      let i = c.loop-stop.stop-index in
      let left = c.loop-stop.invariant.1 d rows represents can (c.in-Ok.ensures.before honest) holds in
      let split = drop_item c.args.stops.now i c.stop-item.result (omega (arith, c.loop-stop-test.true)) c.stop-item.is in
      let goes = c.in-Ok.ensures.outcome left.draft rows left.represents
      (subst (λ (s : Store). CanOffer g.B.BodyKeep.body_of rows c.args.centre.now s) (sym left.same) can) honest left.holds in
      left_next d c.args.stops.now (drop i c.args.stops.now) c.stop-item.result (drop (i + 1) c.args.stops.now) ((g.B.RowStore.state c.loop-stop.bodies).holds rows) ((g.B.RowStore.state c.offer_at.new.bodies).holds rows)
      (g.B.RowStore.state c.args.bodies.now).refusals (g.B.RowStore.state c.loop-stop.bodies).refusals (g.B.RowStore.state c.offer_at.new.bodies).refusals c.loop-stop.draft c.offer_at.new.draft split left goes.0 goes.1.0 goes.1.1,
)

pub returns-in-Err-clause-outcome : goal.returns-in-Err-clause-outcome
returns-in-Err-clause-outcome g c = λ d rows represents can honest holds.
    let i = c.loop-stop.stop-index in
    let left = c.loop-stop.invariant.1 d rows represents can (c.in-Err.ensures.before honest) holds in
    let split = drop_item c.args.stops.now i c.stop-item.result (omega (arith, c.loop-stop-test.true)) c.stop-item.is in
    let goes = c.in-Err.ensures.outcome left.draft rows left.represents (subst (λ (s : Store). CanOffer g.B.BodyKeep.body_of rows c.args.centre.now s) (sym left.same) can) honest left.holds in
    goes_off (λ (u : Unit {0}). Represents (offer_at c.stop-item.result.number left.draft) c.offer_at.new.draft) (λ (u : Unit {0}). Represents (walk offer_at c.args.stops.now d) c.offer_at.new.draft)
    (offer_at c.stop-item.result.number left.draft).links.read (walk offer_at c.args.stops.now d).links.read ((g.B.RowStore.state c.offer_at.new.bodies).holds rows) (g.B.RowStore.state c.offer_at.new.bodies).is_closed (g.B.RowStore.state c.args.bodies.now).refusals (g.B.RowStore.state c.loop-stop.bodies).refusals (g.B.RowStore.state c.offer_at.new.bodies).refusals c.in-Err.error left.none
    (λ k a. reads_last d c.args.stops.now (drop i c.args.stops.now) c.stop-item.result (drop (i + 1) c.args.stops.now) ((g.B.RowStore.state c.loop-stop.bodies).holds rows) (g.B.RowStore.state c.args.bodies.now).refusals (g.B.RowStore.state c.loop-stop.bodies).refusals c.loop-stop.draft k split left a) goes
