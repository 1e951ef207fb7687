-- Offers go to the handsets that are found: to all others nothing is offered.
use Rattle.std.proofs.Common.{◌≡◌, ℕ, List, [], ◌∷◌, Bool, false, Option, Some, None, refl, sym, ◌∙◌, ap, is_some}
use Rattle.std.specs.Prelude.{◌&&◌}
use Rattle.std.proofs.lemmas.Bool.{cond_both}
use Rattle.sms_link.specs.LinkTurn.{begun}
use Rattle.sms_centre_rows.specs.declared.waiting.handset.HandsetRow.{HandsetRow}
use Rattle.sms_centre_rows.specs.declared.waiting.handset_link.HandsetLink.{HandsetLink}
use Rattle.sms_centre_rows.specs.declared.waiting.queued_part.QueuedPart.{QueuedPart}
use Rattle.sms_centre_rows.specs.waiting.Keys.{queued_key}
use Rattle.sms_centre_rows.specs.waiting.Links.{Links, is_ready, link_of, read_for, turned}
use Rattle.sms_centre_rows.specs.waiting.SoundAllocations.{SoundAllocations}
use Rattle.sms_centre_rows.specs.waiting.Waiting.{next, waits_beside}
use Rattle.sms_centre_rows.proofs.waiting.LinksRepresented.{link_of_handset, link_put_other}
use Rattle.sms_centre_queue.specs.declared.queues.concern.Concern.TheVariants.{Offer}
use Rattle.sms_centre_queue.specs.queues.Stops.{is_offered, is_stop, mention_stops}
use Rattle.sms_centre_queue.specs.queues.Walks.{walk}
use Rattle.sms_centre_queue.proofs.queues.StopsApart.{mentions_apart}
use Rattle.sms_centre_spec.specs.Draft.{Draft, Store, handsets_in, on_links, references_in, waiting_in}
use Rattle.sms_centre_spec.specs.Offering.{holder_of, is_made, offer, offer_all, offer_among, offer_queued, offer_on, read_of, unit_of}
use Rattle.sms_centre_draft.specs.walks.Stepping.{offer_at, stops_in}
use Rattle.sms_centre_draft.proofs.walks.Acting.{walk_acting}

-- whether something is offered to the handset
abbrev concerns : List ℕ → Draft → Bool
concerns number d = is_offered d.store.moment (link_of number d.links.all) (waiting_in number d.store)

walks : (hs : List HandsetRow) (d : Draft) → on_links (offer_all hs d.store d.links) d ≡ walk offer_at (mention_stops hs) d
walks [] d = refl
walks (h ∷ hs) d = walks hs (offer_at h.number d)

-- nothing is due
none_offered : (link : HandsetLink) (all_queued : List QueuedPart) (o : Option QueuedPart) (s : Store) (links : Links) → is_some o ≡ false → offer_queued link all_queued o s links ≡ links
none_offered link all_queued None s links e = refl
none_offered link all_queued (Some l) s links e = absurd cc

rests_on : (number : List ℕ) (link : HandsetLink) (s : Store) (links : Links) → link.handset ≡ number → is_offered s.moment link (waiting_in number s) ≡ false → offer_on link s links ≡ links
rests_on number link s links own e =
    cond_both (is_ready link) (offer_among link (waiting_in link.handset s) s links) links (λ (a : Links). a ≡ links)
    (λ t.
    let none : is_some (next s.moment (waiting_in number s)) ≡ false = sym (ap (λ (b : Bool). b && is_some (next s.moment (waiting_in number s))) t) ∙ e in
    let here : is_some (next s.moment (waiting_in link.handset s)) ≡ false = ap (λ (n : List ℕ). is_some (next s.moment (waiting_in n s))) own ∙ none in
    none_offered link (waiting_in link.handset s) (next s.moment (waiting_in link.handset s)) s links here)
    (λ t. refl)

rests : (number : List ℕ) (d : Draft) → concerns number d ≡ false → offer_at number d ≡ d
rests number d e = ap (λ (a : Links). on_links a d) (rests_on number (link_of number d.links.all) d.store d.links (link_of_handset number d.links.all) e)

-- ---- the links of others stay

-- reading touches no link
pub read_links : (l : QueuedPart) (s : Store) (links : Links) → (read_of l s links).all ≡ links.all
read_links l s links = cond_both (is_made l s) links (read_for (queued_key l) links) (λ (a : Links). a.all ≡ links.all) (λ t. refl) (λ t. refl)

queued_other : (link : HandsetLink) (all_queued : List QueuedPart) (o : Option QueuedPart) (s : Store) (links : Links) (other : List ℕ) → ¬ (link.handset ≡ other) → link_of other (offer_queued link all_queued o s links).all ≡ link_of other links.all
queued_other link all_queued None s links other ne = refl
queued_other link all_queued (Some l) s links other ne =
    link_put_other other (turned (begun s.moment l.reference (holder_of l) (unit_of l (waits_beside s.moment l all_queued) s) link.near_end) link) (read_of l s links).all ne
    ∙ ap (λ (ls : List HandsetLink). link_of other ls) (read_links l s links)

on_other : (link : HandsetLink) (s : Store) (links : Links) (other : List ℕ) → ¬ (link.handset ≡ other) → link_of other (offer_on link s links).all ≡ link_of other links.all
on_other link s links other ne =
    cond_both (is_ready link) (offer_among link (waiting_in link.handset s) s links) links (λ (a : Links). link_of other a.all ≡ link_of other links.all)
    (λ t. queued_other link (waiting_in link.handset s) (next s.moment (waiting_in link.handset s)) s links other ne) (λ t. refl)

others : (number other : List ℕ) (d : Draft) → ¬ (number ≡ other) → concerns other (offer_at number d) ≡ concerns other d
others number other d ne =
    ap (λ (l : HandsetLink). is_offered d.store.moment l (waiting_in other d.store))
    (on_other (link_of number d.links.all) d.store d.links other (λ e. ne (sym (link_of_handset number d.links.all) ∙ e)))

-- ---- all of it

pub offers_found : (d : Draft) → SoundAllocations (handsets_in d.store) (references_in d.store) → offer d ≡ walk offer_at (stops_in (Offer d.store.moment) d) d
offers_found d sound =
    walks (handsets_in d.store) d
    ∙ walk_acting offer_at offer_at concerns (is_stop (Offer d.store.moment) (handsets_in d.store) d.links.all (λ (n : List ℕ). waiting_in n d.store)) (mention_stops (handsets_in d.store)) d
    (record { rests = rests; acts = λ n e t. refl; others = others }) (mentions_apart (handsets_in d.store) sound.handset_keys sound.apart) (λ x m. refl)
