use Rattle.std.proofs.Common.{List, ℕ, Option, OnOk, sym, subst}
use Rattle.sms_base.specs.declared.carried.Carried.{Carried}
use Rattle.sms_centre_rows.specs.waiting.Links.{link_of, lowered, put_link}
use Rattle.sms_centre_spec.specs.CentreEvent.{lost}
use Rattle.sms_centre_spec.specs.Draft.{on_links}
use Rattle.sms_centre_draft.specs.CentreDraft.{Represents}
use Rattle.sms_centre_events.proofs.links.lower.Goals as goal
use Rattle.sms_centre_rows.proofs.waiting.LinksRepresented.{link_of_handset}

pub returns : goal.returns
returns c = λ d represents.
    let h = c.args.handset in
    let e = on_links (put_link (lowered (link_of h d.links.all)) d.links) d in
    subst (λ (n : List ℕ). OnOk c.lost.result (Represents (lost n (link_of h d.links.all).near_end.under_way e) c.lost.new.draft)) (sym (link_of_handset h d.links.all))
    (subst (λ (o : Option Carried). OnOk c.lost.result (Represents (lost h o e) c.lost.new.draft)) (c.under_way-transfer.ensures d represents)
    (c.lost.ensures e (c.in_ok-lower_link.ensures d represents)))
