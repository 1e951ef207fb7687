-- Behind the offers no link that is ready has anything due.
use Rattle.std.proofs.Common.{◌≡◌, ℕ, List, [], ◌∷◌, Bool, true, false, refl, sym, ◌∙◌, ap, subst, inl, ⊎_elim, Option, Some, None}
use Rattle.std.specs.Prelude.{◌&&◌, not}
use Rattle.std.proofs.lemmas.Bool.{and_parts, cond_both}
use Rattle.sms_base.proofs.OctetLaws.{cases_octets}
use Rattle.sms_base.specs.Among.{Among}
use Rattle.sms_control.specs.LinkStep.{Step, begin_step, is_busy}
use Rattle.sms_control.specs.declared.link_state.LinkState.{LinkState}
use Rattle.sms_link.specs.LinkTurn.{LinkOf, Turn, begun, of_kind, started as turn_started, still}
use Rattle.sms_base.specs.declared.carried.Kind.TheVariants.{Data}
use Rattle.sms_base.specs.declared.holder.Holder.{Holder}
use Rattle.sms_centre_rows.proofs.waiting.Mentions.{number_found}
use Rattle.sms_centre_rows.proofs.waiting.LinksRepresented.{link_of_handset, link_put, link_put_other}
use Rattle.sms_centre_rows.specs.waiting.Links.{Links, is_ready, link_at, link_of, or_new_link_to, turn_link, turned}
use Rattle.sms_centre_rows.specs.waiting.References.{handset_at}
use Rattle.sms_centre_rows.specs.waiting.SoundWaiting.{SoundWaiting}
use Rattle.sms_centre_rows.specs.waiting.Waiting.{next, waits_beside}
use Rattle.sms_centre_rows.specs.declared.waiting.handset.HandsetRow.{HandsetRow}
use Rattle.sms_centre_rows.specs.declared.waiting.handset_link.HandsetLink.{HandsetLink}
use Rattle.sms_centre_rows.specs.declared.waiting.queued_part.QueuedPart.{QueuedPart}
use Rattle.sms_centre_rows.specs.declared.waiting.reference.ReferenceRow.{ReferenceRow}
use Rattle.sms_centre_spec.proofs.EventLaws.{keeps_apart}
use Rattle.sms_centre_spec.specs.CentreEvent.{aged, at_moment, fired, follow, frame_taken, happened, links_awaited, lower, raise, raised, tag_of}
use Rattle.sms_centre_spec.specs.Draft.{Core, Draft, Store, core_of, draft_of, handsets_in, references_in, waiting_in}
use Rattle.sms_centre_spec.specs.Held.{SoundHeld}
use Rattle.sms_centre_spec.specs.Offering.{holder_of, offer_all, offer_among, offer_queued, offer_to, read_of, unit_of}
use Rattle.sms_centre_spec.specs.Orders.{ordered}
use Rattle.sms_centre_spec.specs.Requests.{cancel, query, submit}
use Rattle.sms_centre_spec.specs.Sessions.{bind, deliver_answered, unbind}
use Rattle.sms_centre_spec.specs.declared.event.CentreEvent.{CentreEvent}
use Rattle.sms_centre_spec.specs.declared.event.CentreEvent.TheVariants.{Submit, Query, Cancel, Bound, Unbound, DeliverAnswered, Frame, LinkUp, LinkDown, Ordered, Tick}
use Rattle.sms_world.specs.centre_runs_are_steps.Offered.{HasOffered, IsOffered}
use Rattle.sms_world.specs.centre_runs_are_steps.OfferedLaws.{BackLaw, EventLaw, FirstLaw}

-- nothing is due at that handset, or its link isn't ready
abbrev IsOfferedTo : Store → List HandsetLink → List ℕ → Type 0
IsOfferedTo s links number = is_ready (link_of number links) ≡ true → next s.moment (waiting_in number s) ≡ None

-- ---- a link that took something is busy

begins_busy : (now : ℕ) (unit : List ℕ) (l : LinkState) → is_busy l ≡ false → is_busy (begin_step now unit l).state ≡ true
unfolding begin_step
begins_busy now unit l e = cond_both (is_busy l) _ _ (λ (x : Step). is_busy x.state ≡ true) (λ t. let bad : true ≡ false = sym t ∙ e in absurd cc) (λ t. refl)

begun_busy : (now r : ℕ) (tag : Holder) (unit : List ℕ) (l : LinkOf) → is_busy (begun now r tag unit l).link.links ≡ true
begun_busy now r tag unit l =
    cond_both (is_busy l.links) (still l) (turn_started (of_kind Data r tag) (begin_step now unit l.links) l) (λ (t : Turn). is_busy t.link.links ≡ true)
    (λ t. t) (λ t. begins_busy now unit l.links t)

busy_unready : (link : HandsetLink) → is_busy link.near_end.links ≡ true → is_ready link ≡ true → ⊥
busy_unready link busy ready =
    not_both (is_busy link.near_end.links) busy (and_parts (not link.is_full) (not (is_busy link.near_end.links)) (and_parts link.is_up (not link.is_full && not (is_busy link.near_end.links)) ready).1).1
  where
    not_both : (x : Bool) → x ≡ true → not x ≡ true → ⊥
    not_both true e f = absurd cc
    not_both false e f = absurd cc

-- ---- an offer to one handset

module _ (s : Store) (links : Links) (number : List ℕ) where
  abbrev link : HandsetLink
  link = link_of number links.all

  queued_leaves : (o : Option QueuedPart) → next s.moment (waiting_in link.handset s) ≡ o → is_ready (link_of number (offer_queued link (waiting_in link.handset s) o s links).all) ≡ true → next s.moment (waiting_in link.handset s) ≡ None
  queued_leaves None e ready = e
  queued_leaves (Some l) e ready =
      let t : Turn = begun s.moment l.reference (holder_of l) (unit_of l (waits_beside s.moment l (waiting_in link.handset s)) s) link.near_end in
      let now : HandsetLink = turned t link in
      let own : link_of number (turn_link link t (read_of l s links)).all ≡ now =
      ap (λ (n : List ℕ). link_of n (turn_link link t (read_of l s links)).all) (sym (link_of_handset number links.all)) ∙ link_put now (read_of l s links).all in
      absurd (busy_unready now (begun_busy s.moment l.reference (holder_of l) (unit_of l (waits_beside s.moment l (waiting_in link.handset s)) s) link.near_end)
      (sym (ap is_ready own) ∙ ready))

  pub offered_to : IsOfferedTo s (offer_to number s links).all number
  offered_to =
      let own : link.handset ≡ number = link_of_handset number links.all in
      cond_both (is_ready link) (offer_among link (waiting_in link.handset s) s links) links (λ (a : Links). IsOfferedTo s a.all number)
      (λ t ready. ap (λ (n : List ℕ). next s.moment (waiting_in n s)) (sym own) ∙ queued_leaves (next s.moment (waiting_in link.handset s)) refl ready)
      (λ t ready. let bad : true ≡ false = sym ready ∙ t in absurd cc)

  -- the link of another stays
  read_links : (l : QueuedPart) → (read_of l s links).all ≡ links.all
  read_links l = cond_both _ links _ (λ (a : Links). a.all ≡ links.all) (λ t. refl) (λ t. refl)

  queued_apart : (o : Option QueuedPart) (other : List ℕ) → ¬ (number ≡ other) → link_of other (offer_queued link (waiting_in link.handset s) o s links).all ≡ link_of other links.all
  queued_apart None other ne = refl
  queued_apart (Some l) other ne =
      let t : Turn = begun s.moment l.reference (holder_of l) (unit_of l (waits_beside s.moment l (waiting_in link.handset s)) s) link.near_end in
      link_put_other other (turned t link) (read_of l s links).all (λ e. ne (sym (link_of_handset number links.all) ∙ e))
      ∙ ap (λ (ls : List HandsetLink). link_of other ls) (read_links l)

  pub offer_apart : (other : List ℕ) → ¬ (number ≡ other) → link_of other (offer_to number s links).all ≡ link_of other links.all
  offer_apart other ne =
      cond_both (is_ready link) (offer_among link (waiting_in link.handset s) s links) links (λ (a : Links). link_of other a.all ≡ link_of other links.all)
      (λ t. queued_apart (next s.moment (waiting_in link.handset s)) other ne) (λ t. refl)

-- ---- offers to all

stays_offered : (s : Store) (links : Links) (number other : List ℕ) → IsOfferedTo s links.all other → IsOfferedTo s (offer_to number s links).all other
stays_offered s links number other k = ⊎_elim
    (λ (e : number ≡ other). subst (λ (n : List ℕ). IsOfferedTo s (offer_to number s links).all n) e (offered_to s links number))
    (λ (ne : number ≡ other → ⊥). λ ready. k (sym (ap is_ready (offer_apart s links number other ne)) ∙ ready))
    (cases_octets number other)

still_offered : (hs : List HandsetRow) (s : Store) (links : Links) (number : List ℕ) → IsOfferedTo s links.all number → IsOfferedTo s (offer_all hs s links).all number
still_offered [] s links number k = k
still_offered (h ∷ hs) s links number k = still_offered hs s (offer_to h.number s links) number (stays_offered s links h.number number k)

all_offered : (hs : List HandsetRow) (s : Store) (links : Links) (h : HandsetRow) → Among h hs → IsOfferedTo s (offer_all hs s links).all h.number
all_offered [] s links h i = absurd i
all_offered (x ∷ hs) s links h i = ⊎_elim
    (λ (e : h ≡ x).
    still_offered hs s (offer_to x.number s links) h.number
    (subst (λ (n : List ℕ). IsOfferedTo s (offer_to x.number s links).all n) (ap (λ (y : HandsetRow). y.number) (sym e)) (offered_to s links x.number)))
    (λ (j : Among h hs). all_offered hs s (offer_to x.number s links) h j)
    i

-- nothing waits for a handset that was given no reference
unmentioned : (row : Option HandsetRow) (references : List ReferenceRow) (waiting : List QueuedPart) (now : ℕ) → row ≡ None → SoundWaiting row references waiting → next now waiting ≡ None
unmentioned None references [] now e k = refl
unmentioned None references (l ∷ ls) now e k = absurd (k.given l (inl refl))
unmentioned (Some h) references waiting now e k = absurd cc

pub behind_offers : (s : Store) (links : Links) → SoundHeld s → IsOffered s (offer_all (handsets_in s) s links).all
behind_offers s links held number = by (handset_at number (handsets_in s)) refl
  where
    by : (o : Option HandsetRow) → handset_at number (handsets_in s) ≡ o → IsOfferedTo s (offer_all (handsets_in s) s links).all number
    by None e = λ ready. unmentioned (handset_at number (handsets_in s)) (references_in s) (waiting_in number s) s.moment e (held.waiting number)
    by (Some h) e =
        let found = number_found number h (handsets_in s) e in
        subst (λ (n : List ℕ). IsOfferedTo s (offer_all (handsets_in s) s links).all n) found.1 (all_offered (handsets_in s) s links h found.0)

-- ---- every event

followed : (x : Draft) → SoundHeld x.store → HasOffered (core_of (follow x))
followed x held = behind_offers x.store x.links held

-- offers follow each
follows : (event : CentreEvent) (c : Core) → (x : Draft) × (happened event c ≡ follow x)
follows (Submit account m) c = (submit account m (draft_of c), refl)
follows (Query account q) c = (query account q (draft_of c), refl)
follows (Cancel account q) c = (cancel account q (draft_of c), refl)
follows (Bound session account receives) c = (bind session account receives (draft_of c), refl)
follows (Unbound session) c = (unbind session (draft_of c), refl)
follows (DeliverAnswered session id b) c = (deliver_answered session id b (draft_of c), refl)
follows (Frame handset octets tag) c = (frame_taken octets (tag_of tag) (link_of handset c.links) (draft_of c), refl)
follows (LinkUp handset) c = (raise handset (draft_of c), refl)
follows (LinkDown handset) c = (lower handset (draft_of c), refl)
follows (Ordered order id) c = (ordered order id (draft_of c), refl)
follows (Tick now) c = (raised (fired (aged (at_moment now (draft_of c)))), refl)

pub event_offered : EventLaw
event_offered event c sound is =
    let x = follows event c in
    let held : SoundHeld (happened event c).store = keeps_apart event c sound is in
    subst (λ (d : Draft). HasOffered (core_of d)) (sym x.1) (followed x.0 (subst (λ (d : Draft). SoundHeld d.store) x.1 held))

-- ---- at the beginning

pub first_offered : FirstLaw
first_offered setup handsets sessions number ready = refl

unready : (number : List ℕ) (o : Option HandsetLink) → ((l : HandsetLink) → o ≡ Some l → l.is_up ≡ false) → is_ready (or_new_link_to number o) ≡ true → ⊥
unready number None f ready = absurd cc
unready number (Some l) f ready =
    let up : l.is_up ≡ true = (and_parts l.is_up (not l.is_full && not (is_busy l.near_end.links)) ready).0 in
    let bad : true ≡ false = sym up ∙ f l refl in absurd cc

awaited_down : (number : List ℕ) (ns : List (List ℕ)) (l : HandsetLink) → link_at number (links_awaited ns) ≡ Some l → l.is_up ≡ false
awaited_down number [] l e = absurd cc
awaited_down number (n ∷ ns) l e =
    cond_both _ (Some _) (link_at number (links_awaited ns)) (λ (o : Option HandsetLink). o ≡ Some l → l.is_up ≡ false)
    (λ t q. ap (λ (x : Option HandsetLink). (or_new_link_to number x).is_up) (sym q))
    (λ t q. awaited_down number ns l q)
    e

pub back_offered : BackLaw
back_offered rows handsets sessions number ready =
    absurd (unready number (link_at number (links_awaited handsets)) (λ l e. awaited_down number handsets l e) ready)
