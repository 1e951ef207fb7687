use Rattle.std.proofs.Common.{List, ℕ, Option, OnOk, sym, subst}
use Rattle.sms_link.specs.declared.ending.Upward.{Upward}
use Rattle.sms_link.specs.LinkTurn.{fired}
use Rattle.sms_centre_rows.specs.waiting.Links.{link_of, turn_link}
use Rattle.sms_centre_spec.specs.CentreEvent.{timed_out}
use Rattle.sms_centre_spec.specs.Draft.{on_links}
use Rattle.sms_centre_draft.specs.CentreDraft.{Represents}
use Rattle.sms_centre_events.proofs.links.fire.Goals as goal
use Rattle.sms_centre_rows.proofs.waiting.LinksRepresented.{link_of_handset}

pub returns : goal.returns
returns c = λ d represents.
    let h = c.args.handset in
    let link = link_of h d.links.all in
    let turn = fired d.store.moment link.near_end in
    let e = on_links (turn_link link turn d.links) d in
    subst (λ (n : List ℕ). OnOk c.timed_out.result (Represents (timed_out n turn.out.up e) c.timed_out.new.draft)) (sym (link_of_handset h d.links.all))
    (subst (λ (o : Option Upward). OnOk c.timed_out.result (Represents (timed_out h o e) c.timed_out.new.draft)) (c.in_ok-up.ensures.up d represents)
    (c.timed_out.ensures e (c.in_ok-up.ensures.state d represents)))
