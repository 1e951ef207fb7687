use Rattle.std.proofs.Common.{List, ℕ, OnOk, sym, subst}
use Rattle.sms_centre_rows.specs.waiting.Links.{link_of, put_link, raised}
use Rattle.sms_centre_spec.specs.Draft.{in_store, on_links}
use Rattle.sms_centre_spec.specs.Receiving.{due_now}
use Rattle.sms_centre_draft.specs.CentreDraft.{Represents}
use Rattle.sms_centre_draft.proofs.centre_draft.CentreDraft.raise.Goals as goal
use Rattle.sms_centre_rows.proofs.waiting.LinksRepresented.{link_of_handset}

pub returns : goal.returns
returns c = λ d represents.
    let h = c.args.handset in
    subst (λ (n : List ℕ). OnOk c.raise_link.result (Represents (on_links (put_link (raised (link_of h d.links.all)) d.links) (in_store (due_now n d.store) d)) c.raise_link.new.self)) (sym (link_of_handset h d.links.all))
    (c.raise_link.ensures (in_store (due_now h d.store) d) (c.in_ok-due_now.ensures d represents))
