use Rattle.std.proofs.Common.{sym, subst}
use Rattle.sms_link.specs.LinkTurn.{taken}
use Rattle.sms_centre_rows.specs.waiting.Links.{link_of, turn_link}
use Rattle.sms_centre_draft.specs.CentreDraft.{Represents, CentreDraftOf, all_waiting}
use Rattle.sms_centre_draft.proofs.RepresentedMoves.{aired_represented}
use Rattle.sms_centre_draft.proofs.centre_draft.CentreDraft.take.Goals as goal

pub returns-clause-up : goal.returns-clause-up
returns-clause-up c = λ d represents.
    let w : CentreDraftOf = record { setup = c.self.inside.setup.now; moment = c.self.inside.moment; messages = c.self.inside.messages; queues = c.self.inside.queues; reports = c.self.inside.reports; bindings = c.self.inside.bindings; answer = c.self.inside.answer } in
    let was : Represents d w = subst (λ (x : CentreDraftOf). Represents d x) (sym c.self.view_is) represents in
    c.in_ok-up.ensures.up d.store.allocations d.links (all_waiting d.store) was.queues

pub returns-clause-state : goal.returns-clause-state
returns-clause-state c = λ d represents.
    let w : CentreDraftOf = record { setup = c.self.inside.setup.now; moment = c.self.inside.moment; messages = c.self.inside.messages; queues = c.self.inside.queues; reports = c.self.inside.reports; bindings = c.self.inside.bindings; answer = c.self.inside.answer } in
    let was : Represents d w = subst (λ (x : CentreDraftOf). Represents d x) (sym c.self.view_is) represents in
    let l = link_of c.args.handset d.links.all in
    aired_represented d w (turn_link l (taken c.args.frame.now l.near_end) d.links) c.take.new.self was (c.in_ok-up.ensures.state d.store.allocations d.links (all_waiting d.store) was.queues)
