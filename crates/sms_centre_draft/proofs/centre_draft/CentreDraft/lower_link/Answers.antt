use Rattle.std.proofs.Common.{sym, subst}
use Rattle.sms_centre_rows.specs.waiting.Links.{link_of, lowered, put_link}
use Rattle.sms_centre_draft.specs.CentreDraft.{Represents, CentreDraftOf, all_waiting}
use Rattle.sms_centre_draft.proofs.RepresentedMoves.{aired_represented}
use Rattle.sms_centre_draft.proofs.centre_draft.CentreDraft.lower_link.Goals as goal

pub returns : goal.returns
returns c = λ d represents.
    let w : CentreDraftOf = record { setup = c.self.inside.setup.now; moment = c.self.inside.moment; messages = c.self.inside.messages; queues = c.self.inside.queues; reports = c.self.inside.reports; bindings = c.self.inside.bindings; answer = c.self.inside.answer } in
    let was : Represents d w = subst (λ (x : CentreDraftOf). Represents d x) (sym c.self.view_is) represents in
    aired_represented d w (put_link (lowered (link_of c.args.handset d.links.all)) d.links) c.lower.new.self was (c.in_ok-lower.ensures d.store.allocations d.links (all_waiting d.store) was.queues)
