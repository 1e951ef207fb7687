use Rattle.std.proofs.Common.{ℕ, List, Option, OnOk, sym, subst}
use Rattle.sms_link.specs.declared.ending.Upward.{Upward}
use Rattle.sms_link.specs.LinkTurn.{taken}
use Rattle.sms_centre_rows.specs.waiting.Links.{link_of, turn_link}
use Rattle.sms_centre_spec.specs.CentreEvent.{went_up}
use Rattle.sms_centre_spec.specs.Draft.{on_links}
use Rattle.sms_centre_draft.specs.CentreDraft.{Represents}
use Rattle.sms_centre_events.proofs.frames.frame_taken.Goals as goal
use Rattle.sms_centre_rows.proofs.waiting.LinksRepresented.{link_of_handset}

pub returns : goal.returns
returns c = λ d represents knows.
    let h = c.args.handset in
    let link = link_of h d.links.all in
    let turn = taken c.args.octets.now link.near_end in
    let e = on_links (turn_link link turn d.links) d in
    subst (λ (n : List ℕ). OnOk c.went_up.result (Represents (went_up n c.args.tag turn.out.up e) c.went_up.new.draft)) (sym (link_of_handset h d.links.all))
    (subst (λ (o : Option Upward). OnOk c.went_up.result (Represents (went_up h c.args.tag o e) c.went_up.new.draft)) (c.in_ok-up.ensures.up d represents)
    (c.went_up.ensures e (c.in_ok-up.ensures.state d represents) knows))
