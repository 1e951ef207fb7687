-- What is offered to one handset.
use Rattle.std.proofs.Common.{◌≡◌, ℕ, List, [], ◌∷◌, ◌++◌, Bool, true, false, Option, Some, None, Result, Ok, Err, refl, sym, ◌∙◌, ap, subst, cond, inl, inr, ⊎_elim}
use Rattle.sms_base.proofs.Lists.{among_front}
use Rattle.sms_base.specs.Among.{Among}
use Rattle.sms_rows.specs.keep.Refusing.{with_answer, with_read}
use Rattle.sms_rows.specs.declared.keep.refusals.Refusals.{Refusals}
use Rattle.sms_base.specs.declared.holder.Holder.{Holder}
use Rattle.sms_centre_queue.specs.queues.Queues.{DeliveryQueuesDraftOf as QueuesOf}
use Rattle.sms_centre_queue.specs.queues.Representing.{DraftRepresents as RepresentsQueues}
use Rattle.sms_centre_rows.specs.declared.waiting.handset_link.HandsetLink.{HandsetLink}
use Rattle.sms_centre_rows.specs.declared.waiting.queued_part.QueuedPart.{QueuedPart}
use Rattle.sms_centre_rows.specs.waiting.Keys.{queued_key}
use Rattle.sms_centre_rows.specs.waiting.Links.{Links, is_ready, link_of, read_for, turn_link}
use Rattle.sms_link.specs.LinkTurn.{begun}
use Rattle.sms_centre_rows.specs.waiting.References.{Allocations}
use Rattle.sms_centre_rows.specs.waiting.Waiting.{next}
use Rattle.sms_centre_spec.specs.declared.plan_error.PlanError.{PlanError}
use Rattle.sms_centre_spec.specs.declared.plan_error.PlanError.TheVariants.{NoBody, NoMemory}
use Rattle.sms_centre_spec.specs.Draft.{Draft, Store, on_links, waiting_in}
use Rattle.sms_centre_spec.specs.Offering.{holder_of, is_made, offer_queued, read_of, tpdu_of}
use Rattle.sms_centre_spec.proofs.SoundOffers.{next_waits}
use Rattle.sms_centre_draft.specs.walks.Stepping.{offer_at}
use Rattle.sms_centre_events.specs.offering.Refusing.{SucceedsOrRefuses, NoneRefused, UnlessMemory}
use Rattle.sms_centre_events.specs.offering.Offered.{next_for, offer_in, offer_next}
use Rattle.sms_centre_draft.specs.CentreDraft.{Represents, CentreDraftOf, all_waiting}
use Rattle.sms_centre_draft.proofs.RepresentedMoves.{aired_represented}
use Rattle.sms_centre_draft.proofs.walks.OffersFound.{read_links}
use Rattle.sms_centre_events.specs.offering.Stored.{made_tpdu}
use Rattle.sms_centre_rows.proofs.waiting.LinksRepresented.{link_of_handset}

-- ---- the next one is offered

one_way : (b : Bool) (link : HandsetLink) (waiting : List QueuedPart) (s : Store) (links : Links)
    → cond b (offer_queued link waiting (next s.moment waiting) s links) links ≡ offer_queued link waiting (cond b (next s.moment waiting) None) s links
one_way true link waiting s links = refl
one_way false link waiting s links = refl

pub offer_is_next : (handset : List ℕ) (d : Draft) → offer_at handset d ≡ offer_next handset (next_for handset d) d
offer_is_next handset d =
    let link : HandsetLink = link_of handset d.links.all in
    ap (λ (links : Links). on_links links d)
    (ap (λ (n : List ℕ). cond (is_ready link) (offer_queued link (waiting_in n d.store) (next d.store.moment (waiting_in n d.store)) d.store d.links) d.links) (link_of_handset handset d.links.all)
    ∙ one_way (is_ready link) link (waiting_in handset d.store) d.store d.links)

next_by : (b : Bool) (now : ℕ) (l : QueuedPart) (ls : List QueuedPart) → cond b (next now ls) None ≡ Some l → Among l ls
next_by true now l ls e = next_waits now l ls e
next_by false now l ls e = absurd cc

-- it waits for the handset
pub next_among : (handset : List ℕ) (l : QueuedPart) (d : Draft) → next_for handset d ≡ Some l → Among l (waiting_in handset d.store)
next_among handset l d e = next_by (is_ready (link_of handset d.links.all)) d.store.moment l (waiting_in handset d.store) e

-- ---- what is read

among_last : {A : Type 0} (x : A) (xs : List A) → Among x (xs ++ x ∷ [])
among_last x [] = inl refl
among_last x (z ∷ xs) = inr (among_last x xs)

still_by : (b : Bool) (key k : ℕ) (links : Links) → Among k links.read → Among k (cond b links (read_for key links)).read
still_by true key k links among = among
still_by false key k links among = among_front k links.read (key ∷ []) among

pub still_read : (l : QueuedPart) (s : Store) (k : ℕ) (links : Links) → Among k links.read → Among k (read_of l s links).read
still_read l s k links among = still_by (is_made l s) (queued_key l) k links among

pub is_read : (l : QueuedPart) (s : Store) (links : Links) → is_made l s ≡ false → Among (queued_key l) (read_of l s links).read
is_read l s links e =
    subst (λ (b : Bool). Among (queued_key l) (cond b links (read_for (queued_key l) links)).read) (sym e) (among_last (queued_key l) links.read)

offered_reads : (handset : List ℕ) (o : Option QueuedPart) (d : Draft) (k : ℕ) → Among k d.links.read → Among k (offer_next handset o d).links.read
offered_reads handset None d k among = among
offered_reads handset (Some l) d k among = still_read l d.store k d.links among

pub offer_reads : (handset : List ℕ) (d : Draft) (k : ℕ) → Among k d.links.read → Among k (offer_at handset d).links.read
offer_reads handset d k among = subst (λ (e : Draft). Among k e.links.read) (sym (offer_is_next handset d)) (offered_reads handset (next_for handset d) d k among)

-- ---- reads are not seen on links

clock_by : (b : Bool) (key : ℕ) (g : Allocations) (links : Links) (waiting : List ℕ → List QueuedPart) (p : QueuesOf) → RepresentsQueues g links waiting p → RepresentsQueues g (cond b links (read_for key links)) waiting p
clock_by true key g links waiting p represents = represents
clock_by false key g links waiting p represents = record {
  sound = represents.sound;
  each = represents.each;
  named = represents.named;
  next_place = represents.next_place;
  handsets = represents.handsets;
  references = represents.references;
  frames = represents.frames;
  link_count = represents.link_count;
  digits = represents.digits;
  apart = represents.apart;
  indexed = represents.indexed;
}

pub read_represented : (l : QueuedPart) (s : Store) (g : Allocations) (links : Links) (waiting : List ℕ → List QueuedPart) (p : QueuesOf) → RepresentsQueues g links waiting p → RepresentsQueues g (read_of l s links) waiting p
read_represented l s g links waiting p represents = clock_by (is_made l s) (queued_key l) g links waiting p represents

-- ---- how steps end

-- what the store told before, and then, is what it tells in the end
pub none_since : (first before after : Refusals) → NoneRefused first before → NoneRefused before after → NoneRefused first after
none_since first before after none then = ⊎_elim
    (λ (e : after ≡ with_answer before). ⊎_elim (λ (n : before ≡ with_answer first). inl (e ∙ ap with_answer n)) (λ (s : before ≡ first). inl (e ∙ ap with_answer s)) none)
    (λ (e : after ≡ before). ⊎_elim (λ (n : before ≡ with_answer first). inl (e ∙ n)) (λ (s : before ≡ first). inr (e ∙ s)) none)
    then

-- the read that was refused is the first that was
pub read_since : (key : ℕ) (first before after : Refusals) → NoneRefused first before → after ≡ with_read key before → after ≡ with_read key first
read_since key first before after none is = ⊎_elim (λ (n : before ≡ with_answer first). is ∙ ap (λ (r : Refusals). with_read key r) n) (λ (s : before ≡ first). is ∙ ap (λ (r : Refusals). with_read key r) s) none

pub goes_on : {A : Type 0} (ok : A → Type 0) (keys : List ℕ) (held closed : Type 0) (before refused : Refusals) (r : Result A PlanError) → UnlessMemory ok r → held → NoneRefused before refused → SucceedsOrRefuses ok keys held closed before refused r
goes_on ok keys held closed before refused (Ok x) is holds none = (is, (holds, none))
goes_on ok keys held closed before refused (Err NoBody) is holds none = absurd is
goes_on ok keys held closed before refused (Err NoMemory) is holds none = (holds, none)

pub goes_off : {A B : Type 0} (ok : A → Type 0) (then : B → Type 0) (keys more : List ℕ) (held closed : Type 0) (first before refused : Refusals) (e : PlanError) → NoneRefused first before → ((k : ℕ) → Among k keys → Among k more)
    → SucceedsOrRefuses ok keys held closed before refused (Err e) → SucceedsOrRefuses then more held closed first refused (Err e)
goes_off ok then keys more held closed first before refused NoBody none into goes = let n = goes.0 in ((n.0, (into n.0 n.1.0, read_since n.0 first before refused none n.1.1)), goes.1)
goes_off ok then keys more held closed first before refused NoMemory none into goes = (goes.0, none_since first before refused none goes.1)

pub short_off : {A B : Type 0} (ok : A → Type 0) (then : B → Type 0) (keys : List ℕ) (held closed : Type 0) (refused : Refusals) (e : PlanError) → UnlessMemory ok (Err e) → held
    → SucceedsOrRefuses then keys held closed refused refused (Err e)
short_off ok then keys held closed refused NoBody is holds = absurd is
short_off ok then keys held closed refused NoMemory is holds = (holds, inr refl)

pub goes_wide : {A : Type 0} (ok : A → Type 0) (keys more : List ℕ) (held closed : Type 0) (before refused : Refusals) (r : Result A PlanError) → ((k : ℕ) → Among k keys → Among k more)
    → SucceedsOrRefuses ok keys held closed before refused r → SucceedsOrRefuses ok more held closed before refused r
goes_wide ok keys more held closed before refused (Ok x) into goes = goes
goes_wide ok keys more held closed before refused (Err NoBody) into goes = let n = goes.0 in ((n.0, (into n.0 n.1.0, n.1.1)), goes.1)
goes_wide ok keys more held closed before refused (Err NoMemory) into goes = goes

pub unless_alike : {A : Type 0} (ok then : A → Type 0) (r : Result A PlanError) → ((x : A) → ok x → then x) → UnlessMemory ok r → UnlessMemory then r
unless_alike ok then (Ok x) into is = into x is
unless_alike ok then (Err NoBody) into is = is
unless_alike ok then (Err NoMemory) into is = is

-- ---- what was made

made_by : (b : Bool) (x t : List ℕ) → Some x ≡ cond b (Some t) None → x ≡ t
made_by true x t e = cc
made_by false x t e = absurd cc

unmade_by : (b : Bool) (t : List ℕ) → None ≡ cond b (Some t) None → b ≡ false
unmade_by true t e = absurd cc
unmade_by false t e = refl

pub made_some : (x : List ℕ) (l : QueuedPart) (s : Store) → Some x ≡ made_tpdu l s → x ≡ tpdu_of l s
made_some x l s e = made_by (is_made l s) x (tpdu_of l s) e

pub made_none : (l : QueuedPart) (s : Store) → None ≡ made_tpdu l s → is_made l s ≡ false
made_none l s e = unmade_by (is_made l s) (tpdu_of l s) e

-- ---- a transaction begins

pub begun_represented : (handset : List ℕ) (l : QueuedPart) (unit : List ℕ) (now : ℕ) (tag : Holder) (d : Draft) (w : CentreDraftOf) (queues : QueuesOf) → Represents d w → now ≡ d.store.moment → tag ≡ holder_of l
    → RepresentsQueues d.store.allocations
    (turn_link (link_of handset (read_of l d.store d.links).all) (begun now l.reference tag unit (link_of handset (read_of l d.store d.links).all).near_end) (read_of l d.store d.links)) (all_waiting d.store) queues
    → Represents (offer_in handset unit l d) (record w { queues = queues })
begun_represented handset l unit now tag d w queues represents is held placed =
    let links : Links = read_of l d.store d.links in
    aired_represented d w (turn_link (link_of handset d.links.all) (begun d.store.moment l.reference (holder_of l) unit (link_of handset d.links.all).near_end) links) queues represents
    (subst (λ (ls : List HandsetLink). RepresentsQueues d.store.allocations (turn_link (link_of handset ls) (begun d.store.moment l.reference (holder_of l) unit (link_of handset ls).near_end) links) (all_waiting d.store) queues) (read_links l d.store d.links)
    (subst (λ (n : ℕ). RepresentsQueues d.store.allocations (turn_link (link_of handset links.all) (begun n l.reference (holder_of l) unit (link_of handset links.all).near_end) links) (all_waiting d.store) queues) is
    (subst (λ (t : Holder). RepresentsQueues d.store.allocations (turn_link (link_of handset links.all) (begun now l.reference t unit (link_of handset links.all).near_end) links) (all_waiting d.store) queues) held placed)))
