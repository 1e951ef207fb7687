-- What is shown after each kind of move: what waits changes, a link changes.
use Rattle.std.proofs.Common.{◌≡◌, ℕ, ◌++◌, List, length, refl, sym, ◌∙◌, ap, subst, arith}
use Rattle.sms_base.specs.Msisdn.{IsMsisdn}
use Rattle.sms_rows.specs.table.Keys.{digits_key}
use Rattle.sms_link.specs.declared.outgoing.Outgoing.{Outgoing}
use Rattle.sms_centre_rows.specs.declared.waiting.handset_link.HandsetLink.{HandsetLink}
use Rattle.sms_centre_rows.specs.declared.waiting.handset_link.Sent.{Sent}
use Rattle.sms_centre_rows.specs.declared.waiting.queued_part.QueuedPart.{QueuedPart}
use Rattle.sms_centre_rows.specs.waiting.Links.{Links, link_of, to_handset, with_link}
use Rattle.sms_centre_rows.specs.waiting.References.{Allocations, handsets_of, references_of}
use Rattle.sms_centre_rows.proofs.waiting.LinksRepresented.{link_of_handset, link_put, link_put_other}
use Rattle.sms_centre_queue.specs.declared.queues.placed_queue.PlacedQueue.{PlacedQueue}
use Rattle.sms_centre_queue.specs.queues.LinkOrder.{link_place_in}
use Rattle.sms_centre_queue.specs.queues.Queues.{Becomes, IsTaken, DeliveryQueuesDraftOf, link_place_now, counted, link_count_now, on_link, with_queue}
use Rattle.sms_centre_queue.specs.queues.Representing.{DraftRepresents, RepresentsPlaced, Waits}
use Rattle.sms_centre_queue.proofs.queues.Becoming.{also_represented, represents_next}
use Rattle.sms_centre_queue.proofs.queues.LinkPlaces.{apart_put, arrived_other, arrived_own, digits_put, link_count_put}

-- ---- a queue that was taken out and is put back

pub taken_back : (number : List ℕ) (q placed : PlacedQueue) (p mid new : DeliveryQueuesDraftOf) → IsTaken number q p mid → Becomes (digits_key number) placed mid new → Becomes (digits_key number) placed p new
taken_back number q placed p mid new taken becomes = record {
  own = becomes.own;
  others = λ k ne. becomes.others k ne ∙ taken.others k ne;
  rest = becomes.rest ∙ ap (λ (x : DeliveryQueuesDraftOf). record x { touched = new.touched }) taken.rest;
}

pub taken_counted : (number : List ℕ) (q placed : PlacedQueue) (n : ℕ) (fs : List Sent) (p mid new : DeliveryQueuesDraftOf) → IsTaken number q p mid → Becomes (digits_key number) placed (counted n fs mid) new
    → Becomes (digits_key number) placed (counted n fs p) new
taken_counted number q placed n fs p mid new taken becomes = record {
  own = becomes.own;
  others = λ k ne. becomes.others k ne ∙ taken.others k ne;
  rest = becomes.rest ∙ ap (λ (x : DeliveryQueuesDraftOf). record (counted n fs x) { touched = new.touched }) taken.rest;
}

-- the queue that was taken out is that of the handset
pub taken_represented : (number : List ℕ) (q : PlacedQueue) (p mid : DeliveryQueuesDraftOf) (g : Allocations) (links : Links) (w : List ℕ → List QueuedPart) → IsMsisdn number → IsTaken number q p mid → DraftRepresents g links w p
    → RepresentsPlaced number (handsets_of g) (references_of g) (w number) links.all q
taken_represented number q p mid g links w digits taken represents =
    subst (λ (x : PlacedQueue). RepresentsPlaced number (handsets_of g) (references_of g) (w number) links.all x) (sym taken.is) (represents.each number digits)

pub taken_handset : (number : List ℕ) (q : PlacedQueue) (p mid : DeliveryQueuesDraftOf) (g : Allocations) (links : Links) (w : List ℕ → List QueuedPart) → IsMsisdn number → IsTaken number q p mid → DraftRepresents g links w p → q.queue.link.handset ≡ number
taken_handset number q p mid g links w digits taken represents =
    ap (λ (l : HandsetLink). l.handset) (taken_represented number q p mid g links w digits taken represents).queue.link ∙ link_of_handset number links.all

-- ---- what waits

pub waits_next : (number : List ℕ) (f : List QueuedPart → List QueuedPart) (q : PlacedQueue) (p mid new : DeliveryQueuesDraftOf) → IsMsisdn number → IsTaken number q p mid
    → Becomes (digits_key number) (with_queue (record q.queue { waiting = f q.queue.waiting }) q) mid new
    → (g : Allocations) (links : Links) (w w2 : List ℕ → List QueuedPart) → DraftRepresents g links w p → Waits number f w w2 → DraftRepresents g links w2 new
waits_next number f q p mid new digits taken becomes g links w w2 represents waits =
    let placed : PlacedQueue = with_queue (record q.queue { waiting = f q.queue.waiting }) q in
    let was = taken_represented number q p mid g links w digits taken represents in
    represents_next number placed p p new g g links links w w2 digits (taken_back number q placed p mid new taken becomes) (λ k. refl) refl represents (also_represented g links w p represents)
    (taken_handset number q p mid g links w digits taken represents)
    (record { queue = record { row = was.queue.row; given = was.queue.given; all_queued = ap f was.queue.all_queued ∙ sym waits.0; link = was.queue.link }; link_place = was.link_place })
    (λ other x ne s. record {
      queue = record { row = s.queue.row; given = s.queue.given; all_queued = s.queue.all_queued ∙ sym (waits.1 other ne); link = s.queue.link };
      link_place = s.link_place;
    })

-- ---- a link

pub link_next : (number : List ℕ) (f : HandsetLink → HandsetLink) (sent : HandsetLink → List Outgoing) (q : PlacedQueue) (p mid new : DeliveryQueuesDraftOf) → IsMsisdn number → ((l : HandsetLink) → (f l).handset ≡ l.handset) → IsTaken number q p mid
    → Becomes (digits_key number) (on_link (f q.queue.link) (link_place_now q.link_place mid.link_count) q) (counted (link_count_now q.link_place mid.link_count) (mid.frames ++ to_handset number (sent q.queue.link)) mid) new
    → (g : Allocations) (links : Links) (w : List ℕ → List QueuedPart) → DraftRepresents g links w p
    → DraftRepresents g (record links { all = with_link (f (link_of number links.all)) links.all; frames = links.frames ++ to_handset number (sent (link_of number links.all)) }) w new
link_next number f sent q p mid new digits keeps taken becomes g links w represents =
    let was = taken_represented number q p mid g links w digits taken represents in
    let link : HandsetLink = f (link_of number links.all) in
    let is : q.queue.link ≡ link_of number links.all = was.queue.link in
    let handset : link.handset ≡ number = keeps (link_of number links.all) ∙ link_of_handset number links.all in
    let count : mid.link_count ≡ length links.all = ap (λ (x : DeliveryQueuesDraftOf). x.link_count) taken.rest ∙ represents.link_count in
    let frames : mid.frames ≡ links.frames = ap (λ (x : DeliveryQueuesDraftOf). x.frames) taken.rest ∙ represents.frames in
    let placed : PlacedQueue = on_link (f q.queue.link) (link_place_now q.link_place mid.link_count) q in
    let n : ℕ = link_count_now q.link_place mid.link_count in
    let fs : List Sent = mid.frames ++ to_handset number (sent q.queue.link) in
    let arrived_unit_is : link_place_in number (with_link link links.all) ≡ link_place_now (link_place_in number links.all) (length links.all) =
    subst (λ (h : List ℕ). link_place_in h (with_link link links.all) ≡ link_place_now (link_place_in h links.all) (length links.all)) handset (arrived_own 1 link links.all (omega arith)) in
    let count_is : length (with_link link links.all) ≡ link_count_now (link_place_in number links.all) (length links.all) =
    subst (λ (h : List ℕ). length (with_link link links.all) ≡ link_count_now (link_place_in h links.all) (length links.all)) handset (link_count_put 1 link links.all (omega arith)) in
    represents_next number placed p (counted n fs p) new g g links (record links { all = with_link link links.all; frames = links.frames ++ to_handset number (sent (link_of number links.all)) }) w w digits
    (taken_counted number q placed n fs p mid new taken becomes) (λ k. refl) refl represents
    (record {
      sound = represents.sound;
      next_place = represents.next_place;
      handsets = represents.handsets;
      references = represents.references;
      frames = ap (λ (x : List Sent). x ++ to_handset number (sent q.queue.link)) frames ∙ ap (λ (l : HandsetLink). links.frames ++ to_handset number (sent l)) is;
      link_count = ap (λ (c : ℕ). link_count_now c mid.link_count) was.link_place ∙ ap (λ (m : ℕ). link_count_now (link_place_in number links.all) m) count ∙ sym count_is;
      digits = digits_put link links.all (subst IsMsisdn (sym handset) digits) represents.digits;
      apart = apart_put link links.all represents.apart;
    })
    (ap (λ (l : HandsetLink). (f l).handset) is ∙ handset)
    (record {
      queue = record {
        row = was.queue.row;
        given = was.queue.given;
        all_queued = was.queue.all_queued;
        link = ap f is ∙ sym (subst (λ (h : List ℕ). link_of h (with_link link links.all) ≡ link) handset (link_put link links.all));
      };
      link_place = ap (λ (c : ℕ). link_place_now c mid.link_count) was.link_place ∙ ap (λ (m : ℕ). link_place_now (link_place_in number links.all) m) count ∙ sym arrived_unit_is;
    })
    (λ other x ne s.
    let apart : ¬ (link.handset ≡ other) = λ e. ne (sym handset ∙ e) in
    record {
      queue = record { row = s.queue.row; given = s.queue.given; all_queued = s.queue.all_queued; link = s.queue.link ∙ sym (link_put_other other link links.all apart) };
      link_place = s.link_place ∙ sym (arrived_other 1 other link links.all apart);
    })
