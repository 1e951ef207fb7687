use Rattle.std.proofs.Common.{ℕ, sym, ◌∙◌, ap, subst}
use Rattle.sms_link.specs.LinkTurn.{fired}
use Rattle.sms_centre_rows.specs.waiting.Links.{link_of, turn_link}
use Rattle.sms_centre_spec.specs.Draft.{on_links}
use Rattle.sms_centre_draft.specs.CentreDraft.{Represents, CentreDraftOf, all_waiting}
use Rattle.sms_centre_draft.proofs.RepresentedMoves.{aired_represented}
use Rattle.sms_centre_draft.proofs.centre_draft.CentreDraft.fire_timers.Goals as goal

pub returns-clause-up : goal.returns-clause-up
returns-clause-up c = λ d represents.
    let w : CentreDraftOf = record { setup = c.self.inside.setup.now; moment = c.self.inside.moment; messages = c.self.inside.messages; queues = c.self.inside.queues; reports = c.self.inside.reports; bindings = c.self.inside.bindings; answer = c.self.inside.answer } in
    let was : Represents d w = subst (λ (x : CentreDraftOf). Represents d x) (sym c.self.view_is) represents in
    c.in_ok-up.ensures.up d.store.allocations d.links (all_waiting d.store) was.queues
    ∙ ap (λ (n : ℕ). (fired n (link_of c.args.handset d.links.all).near_end).out.up) was.moment

pub returns-clause-state : goal.returns-clause-state
returns-clause-state c = λ d represents.
    let w : CentreDraftOf = record { setup = c.self.inside.setup.now; moment = c.self.inside.moment; messages = c.self.inside.messages; queues = c.self.inside.queues; reports = c.self.inside.reports; bindings = c.self.inside.bindings; answer = c.self.inside.answer } in
    let was : Represents d w = subst (λ (x : CentreDraftOf). Represents d x) (sym c.self.view_is) represents in
    subst (λ (n : ℕ). Represents (on_links (turn_link (link_of c.args.handset d.links.all) (fired n (link_of c.args.handset d.links.all).near_end) d.links) d) (record w { queues = c.fire.new.self })) was.moment
    (aired_represented d w (turn_link (link_of c.args.handset d.links.all) (fired w.moment (link_of c.args.handset d.links.all).near_end) d.links) c.fire.new.self was
    (c.in_ok-up.ensures.state d.store.allocations d.links (all_waiting d.store) was.queues))
