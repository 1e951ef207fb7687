use Rattle.std.proofs.Common.{ℕ, sym, subst}
use Rattle.sms_link.specs.LinkTurn.{replied}
use Rattle.sms_centre_rows.specs.waiting.Links.{link_of, turn_link}
use Rattle.sms_centre_spec.specs.Draft.{on_links}
use Rattle.sms_centre_draft.specs.CentreDraft.{Represents, CentreDraftOf, all_waiting}
use Rattle.sms_centre_draft.proofs.RepresentedMoves.{aired_represented}
use Rattle.sms_centre_draft.proofs.centre_draft.CentreDraft.reply.Goals as goal

pub returns : goal.returns
returns c = λ d represents.
    let w : CentreDraftOf = record { setup = c.self.inside.setup.now; moment = c.self.inside.moment; messages = c.self.inside.messages; queues = c.self.inside.queues; reports = c.self.inside.reports; bindings = c.self.inside.bindings; answer = c.self.inside.answer } in
    let was : Represents d w = subst (λ (x : CentreDraftOf). Represents d x) (sym c.self.view_is) represents in
    let l = link_of c.args.transfer.now.handset d.links.all in
    subst (λ (n : ℕ). Represents (on_links (turn_link l (replied n c.args.kind c.args.transfer.now.reference c.args.transfer.now.tag c.args.unit.now l.near_end) d.links) d) (record w { queues = c.reply.new.self })) was.moment
    (aired_represented d w (turn_link l (replied w.moment c.args.kind c.args.transfer.now.reference c.args.transfer.now.tag c.args.unit.now l.near_end) d.links) c.reply.new.self was
    (c.in_ok-reply.ensures d.store.allocations d.links (all_waiting d.store) was.queues))
