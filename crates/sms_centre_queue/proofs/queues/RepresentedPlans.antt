-- An event begins. What an event left is represented once it was put in.
use Rattle.std.proofs.Common.{◌≡◌, ℕ, List, [], true, Option, Some, None, refl, sym, ◌∙◌, ap, subst, ⊎_elim}
use Rattle.std.specs.Option.{option_or}
use Rattle.sms_rows.specs.table.Keys.{digits_key}
use Rattle.sms_centre_rows.specs.declared.waiting.queued_part.QueuedPart.{QueuedPart}
use Rattle.sms_centre_rows.specs.declared.waiting.handset.HandsetRow.{HandsetRow}
use Rattle.sms_centre_rows.specs.declared.waiting.handset_link.HandsetLink.{HandsetLink}
use Rattle.sms_centre_rows.specs.declared.waiting.reference.ReferenceRow.{ReferenceRow}
use Rattle.sms_centre_rows.specs.waiting.Links.{Links}
use Rattle.sms_centre_rows.specs.waiting.References.{Allocations, handsets_of, references_of}
use Rattle.sms_centre_queue.specs.declared.queues.placed_queue.PlacedQueue.{PlacedQueue}
use Rattle.sms_centre_queue.specs.declared.queues.concern.Concern.TheVariants.{Offer}
use Rattle.sms_centre_queue.specs.queues.Plan.{IsAdopted, IsInstalled, IsSettled, DeliveryQueuesPlanOf, relisted}
use Rattle.sms_centre_queue.specs.queues.Queues.{Continues, SharedQueuesOf, DeliveryQueuesDraftOf, DeliveryQueuesOf, at, is_listed, or_new, pending_of, under}
use Rattle.sms_centre_queue.specs.queues.Representing.{Begins, Indexed, DraftRepresents, RepresentsPlaced, Represents}
use Rattle.sms_centre_queue.specs.queues.Stops.{is_active, scanned, stop_if}
use Rattle.sms_centre_queue.proofs.queues.Finding.{nothing_left}

-- ---- the queues that changed were put into the ground

-- each queue stands as the event left it
represents_at : (p : DeliveryQueuesDraftOf) (touched : List (ℕ × PlacedQueue)) (rested : Option ℕ) (old new : SharedQueuesOf) (key : ℕ) → touched ≡ p.touched → old ≡ p.base → IsInstalled touched rested old new → under key new.queues ≡ at key p
represents_at p touched rested old new key same base installed =
    installed.queues key ∙ ap (λ (es : List (ℕ × PlacedQueue)). option_or (under key es) (under key old.queues)) same
    ∙ ap (λ (g : SharedQueuesOf). option_or (under key p.touched) (under key g.queues)) base

active_listed : (p : DeliveryQueuesDraftOf) (rested : Option ℕ) (new : SharedQueuesOf) (key : ℕ) (placed : PlacedQueue) (touched : Option PlacedQueue) → Indexed p.base → IsInstalled p.touched rested p.base new → under key p.touched ≡ touched
    → option_or touched (under key p.base.queues) ≡ Some placed → is_active placed.queue.link ≡ true → is_listed key new.index ≡ true
active_listed p rested new key placed (Some q) indexed installed there found active =
    let both : Some q ≡ Some placed = found in
    let same : q ≡ placed = cc in
    let listed : is_listed key new.index ≡ relisted (Some q) (is_listed key p.base.index) =
    installed.index key ∙ ap (λ (o : Option PlacedQueue). relisted o (is_listed key p.base.index)) there in
    listed ∙ ap (λ (x : PlacedQueue). is_active x.queue.link) same ∙ active
active_listed p rested new key placed None indexed installed there found active =
    let listed : is_listed key new.index ≡ is_listed key p.base.index =
    installed.index key ∙ ap (λ (o : Option PlacedQueue). relisted o (is_listed key p.base.index)) there in
    listed ∙ indexed.active key placed found active

ground_represents : (g : Allocations) (links : Links) (w : List ℕ → List QueuedPart) (p : DeliveryQueuesDraftOf) (rested : Option ℕ) (new : SharedQueuesOf) → DraftRepresents g links w p → ((moment : ℕ) → rested ≡ Some moment → scanned (Offer moment) p ≡ []) → IsInstalled p.touched rested p.base new
    → Represents (handsets_of g) (references_of g) links.all w (record { ground = new; touched = []; next_place = p.next_place; link_count = p.link_count })
ground_represents g links w p rested new represents none installed = record {
  sound = represents.sound;
  each = λ number d.
      subst (λ (o : Option PlacedQueue). RepresentsPlaced number (handsets_of g) (references_of g) (w number) links.all (or_new number o)) (sym (represents_at p p.touched rested p.base new (digits_key number) refl refl installed)) (represents.each number d);
  named = λ key placed found. represents.named key placed (sym (represents_at p p.touched rested p.base new key refl refl installed) ∙ found);
  next_place = represents.next_place;
  handsets = refl;
  references = refl;
  frames = refl;
  link_count = represents.link_count;
  digits = represents.digits;
  apart = represents.apart;
  indexed = record {
    active = λ key placed found active.
        active_listed p rested new key placed (under key p.touched) represents.indexed installed refl (sym (represents_at p p.touched rested p.base new key refl refl installed) ∙ found) active;
    rested = λ moment key placed is found.
        let at_it : at key p ≡ Some placed = sym (represents_at p p.touched rested p.base new key refl refl installed) ∙ found in
        let left = nothing_left (Offer moment) p key (under key p.touched) (under key p.base.queues) represents.indexed (none moment (sym installed.rested ∙ is)) refl refl in
        sym (ap (λ (o : Option PlacedQueue). stop_if (Offer moment) o) at_it) ∙ left;
  };
}

-- ---- they stand beside it

beside_represents : (g : Allocations) (links : Links) (w : List ℕ → List QueuedPart) (p : DeliveryQueuesDraftOf) → DraftRepresents g links w p
    → Represents (handsets_of g) (references_of g) links.all w (record { ground = p.base; touched = p.touched; next_place = p.next_place; link_count = p.link_count })
beside_represents g links w p represents = record {
  sound = represents.sound;
  each = represents.each;
  named = represents.named;
  next_place = represents.next_place;
  handsets = refl;
  references = refl;
  frames = refl;
  link_count = represents.link_count;
  digits = represents.digits;
  apart = represents.apart;
  indexed = represents.indexed;
}

-- ---- either way

pub adopted_represents : (g : Allocations) (links : Links) (w : List ℕ → List QueuedPart) (p : DeliveryQueuesDraftOf) (s : DeliveryQueuesPlanOf) (new : DeliveryQueuesOf) → DraftRepresents g links w p → IsSettled p s → IsAdopted s new
    → Represents (handsets_of g) (references_of g) links.all w new
adopted_represents g links w p s new represents settled adopted = ⊎_elim
    (λ (i : IsInstalled s.touched s.rested s.ground new.ground × (new.touched ≡ [])).
    let installed : IsInstalled p.touched s.rested p.base new.ground =
    subst (λ (o : SharedQueuesOf). IsInstalled p.touched s.rested o new.ground) settled.ground (subst (λ (es : List (ℕ × PlacedQueue)). IsInstalled es s.rested s.ground new.ground) settled.touched i.0) in
    let same : record { ground = new.ground; touched = []; next_place = p.next_place; link_count = p.link_count } ≡ new = is new.ground [] refl i.1 in
    subst (λ (x : DeliveryQueuesOf). Represents (handsets_of g) (references_of g) links.all w x) same (ground_represents g links w p s.rested new.ground represents settled.rested installed))
    (λ (l : (new.ground ≡ s.ground) × (new.touched ≡ s.touched)).
    let same : record { ground = p.base; touched = p.touched; next_place = p.next_place; link_count = p.link_count } ≡ new = is p.base p.touched (l.0 ∙ settled.ground) (l.1 ∙ settled.touched) in
    subst (λ (x : DeliveryQueuesOf). Represents (handsets_of g) (references_of g) links.all w x) same (beside_represents g links w p represents))
    adopted.put_in
  where
    is : (ground : SharedQueuesOf) (touched : List (ℕ × PlacedQueue)) → new.ground ≡ ground → new.touched ≡ touched → record { ground = ground; touched = touched; next_place = p.next_place; link_count = p.link_count } ≡ new
    is ground touched a b =
        let place = adopted.next_place ∙ settled.next_place in
        let link_count = adopted.link_count ∙ settled.link_count in
        ap (λ (g : SharedQueuesOf). record { ground = g; touched = touched; next_place = p.next_place; link_count = p.link_count }) (sym a)
        ∙ ap (λ (es : List (ℕ × PlacedQueue)). record { ground = new.ground; touched = es; next_place = p.next_place; link_count = p.link_count }) (sym b)
        ∙ ap (λ (n : ℕ). record { ground = new.ground; touched = new.touched; next_place = n; link_count = p.link_count }) (sym place)
        ∙ ap (λ (n : ℕ). record { ground = new.ground; touched = new.touched; next_place = new.next_place; link_count = n }) (sym link_count)

-- ---- an event begins, with the queues that stand beside the ground in memory of its own

alike_begins : (handsets : List HandsetRow) (references : List ReferenceRow) (links : List HandsetLink) (w : List ℕ → List QueuedPart) (s : DeliveryQueuesOf) (touched : List (ℕ × PlacedQueue)) → Represents handsets references links w s
    → ((key : ℕ) → under key touched ≡ under key s.touched) → Begins handsets references links w (record (pending_of s) { touched = touched })
alike_begins handsets references links w s touched stands alike =
    let at_same : (key : ℕ) → option_or (under key touched) (under key s.ground.queues) ≡ option_or (under key s.touched) (under key s.ground.queues) =
    λ key. ap (λ (o : Option PlacedQueue). option_or o (under key s.ground.queues)) (alike key) in
    record {
      sound = stands.sound;
      each = λ number d.
          subst (λ (o : Option PlacedQueue). RepresentsPlaced number handsets references (w number) links (or_new number o)) (sym (at_same (digits_key number))) (stands.each number d);
      named = λ key placed found. stands.named key placed (sym (at_same key) ∙ found);
      next_place = stands.next_place;
      handsets = refl;
      references = refl;
      frames = refl;
      link_count = stands.link_count;
      digits = stands.digits;
      apart = stands.apart;
      indexed = stands.indexed;
    }

pub continued_begins : (handsets : List HandsetRow) (references : List ReferenceRow) (links : List HandsetLink) (w : List ℕ → List QueuedPart) (s : DeliveryQueuesOf) (p : DeliveryQueuesDraftOf) → Represents handsets references links w s → Continues s p
    → Begins handsets references links w p
continued_begins handsets references links w s p stands continues =
    subst (λ (q : DeliveryQueuesDraftOf). Begins handsets references links w q) (sym continues.rest) (alike_begins handsets references links w s p.touched stands continues.alike)
