use Rattle.std.proofs.Common.{sym, subst}
use Rattle.sms_centre_spec.specs.Offering.{read_of}
use Rattle.sms_centre_draft.specs.CentreDraft.{Represents, CentreDraftOf, all_waiting}
use Rattle.sms_centre_events.proofs.offering.OneOffer.{begun_represented, read_represented}
use Rattle.sms_centre_events.proofs.offering.units.begun.Goals as goal

pub returns : goal.returns
returns c = λ d represents.
    let w : CentreDraftOf = record { setup = c.draft.inside.setup.now; moment = c.draft.inside.moment; messages = c.draft.inside.messages; queues = c.draft.inside.queues; reports = c.draft.inside.reports; bindings = c.draft.inside.bindings; answer = c.draft.inside.answer } in
    let was : Represents d w = subst (λ (x : CentreDraftOf). Represents d x) (sym c.draft.view_is) represents in
    let l = c.args.queued.now in
    begun_represented c.args.handset l c.args.unit.now c.now-now.result c.holder_of-holder.result d w c.begin.new.self was (c.now-now.ensures d represents) c.holder_of-holder.ensures
    (c.in_ok-begin.ensures d.store.allocations (read_of l d.store d.links) (all_waiting d.store) (read_represented l d.store d.store.allocations d.links (all_waiting d.store) w.queues was.queues))
