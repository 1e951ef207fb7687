-- The queue that is found under the key of a handset's digits is that handset's; and where none is found, nothing was heard of it.
use Rattle.std.proofs.Common.{◌≡◌, ◌≤◌, ◌^◌, ℕ, List, Option, sym, ◌∙◌, ap, subst}
use Rattle.sms_base.specs.Msisdn.{IsMsisdn}
use Rattle.sms_rows.specs.table.Keys.{digits_key}
use Rattle.sms_centre_rows.specs.declared.waiting.handset.HandsetRow.{HandsetRow}
use Rattle.sms_centre_rows.specs.declared.waiting.handset_link.HandsetLink.{HandsetLink}
use Rattle.sms_centre_rows.specs.declared.waiting.queued_part.QueuedPart.{QueuedPart}
use Rattle.sms_centre_rows.specs.waiting.Links.{Links, link_of}
use Rattle.sms_centre_rows.specs.waiting.References.{Allocations, handset_at, handset_of, handsets_of, next_reference, or_new_handset, place_after, references_of}
use Rattle.sms_centre_queue.specs.queue.FreeReferences.{free_references}
use Rattle.sms_centre_rows.proofs.waiting.ReferencesRepresented.{next_represented}
use Rattle.sms_centre_rows.proofs.waiting.LinksRepresented.{link_of_handset}
use Rattle.sms_centre_queue.proofs.queue.FreeCounted.{free_represented}
use Rattle.sms_centre_queue.specs.declared.queues.placed_queue.PlacedQueue.{PlacedQueue}
use Rattle.sms_centre_queue.specs.queues.Queues.{DeliveryQueuesDraftOf, HasNoPlace, at, free_at, or_new, placed_of}
use Rattle.sms_centre_queue.specs.queues.Representing.{DraftRepresents, RepresentsPlaced}

pub asked : (number : List ℕ) (o : Option PlacedQueue) (p : DeliveryQueuesDraftOf) → IsMsisdn number → o ≡ at (digits_key number) p
    → (g : Allocations) (links : Links) (w : List ℕ → List QueuedPart) → DraftRepresents g links w p → RepresentsPlaced number (handsets_of g) (references_of g) (w number) links.all (or_new number o)
asked number o p digits is g links w represents =
    subst (λ (x : Option PlacedQueue). RepresentsPlaced number (handsets_of g) (references_of g) (w number) links.all (or_new number x)) (sym is) (represents.each number digits)

pub asked_waiting : (number : List ℕ) (o : Option PlacedQueue) (p : DeliveryQueuesDraftOf) → IsMsisdn number → o ≡ at (digits_key number) p
    → (g : Allocations) (links : Links) (w : List ℕ → List QueuedPart) → DraftRepresents g links w p → (or_new number o).queue.waiting ≡ w number
asked_waiting number o p digits is g links w represents = (asked number o p digits is g links w represents).queue.all_queued

pub asked_link : (number : List ℕ) (o : Option PlacedQueue) (p : DeliveryQueuesDraftOf) → IsMsisdn number → o ≡ at (digits_key number) p
    → (g : Allocations) (links : Links) (w : List ℕ → List QueuedPart) → DraftRepresents g links w p → (or_new number o).queue.link ≡ link_of number links.all
asked_link number o p digits is g links w represents = (asked number o p digits is g links w represents).queue.link

-- the next reference at a queue is that of its handset
pub asked_reference : (number : List ℕ) (o : Option PlacedQueue) (p : DeliveryQueuesDraftOf) (now : ℕ) → IsMsisdn number → o ≡ at (digits_key number) p
    → (g : Allocations) (links : Links) (w : List ℕ → List QueuedPart) → DraftRepresents g links w p
    → let q : PlacedQueue = or_new number o in
    next_reference (or_new_handset q.queue.link.handset p.next_place q.queue.row) q.queue.waiting q.queue.given now ≡ next_reference (handset_of number (handsets_of g)) (w number) (references_of g) now
asked_reference number o p now digits is g links w represents =
    let q : PlacedQueue = or_new number o in
    let hs : List HandsetRow = handsets_of g in
    let one = asked number o p digits is g links w represents in
    let handset : q.queue.link.handset ≡ number = ap (λ (l : HandsetLink). l.handset) one.queue.link ∙ link_of_handset number links.all in
    ap (λ (n : List ℕ). next_reference (or_new_handset n p.next_place q.queue.row) q.queue.waiting q.queue.given now) handset
    ∙ ap (λ (n : ℕ). next_reference (or_new_handset number n q.queue.row) q.queue.waiting q.queue.given now) represents.next_place
    ∙ sym (next_represented number hs (references_of g) q.queue.given q.queue.waiting q.queue.row now represents.sound (sym one.queue.row) one.queue.given)
    ∙ ap (λ (ls : List QueuedPart). next_reference (or_new_handset number (place_after 1 hs) q.queue.row) ls (references_of g) now) one.queue.all_queued
    ∙ ap (λ (r : Option HandsetRow). next_reference (or_new_handset number (place_after 1 hs) r) (w number) (references_of g) now) one.queue.row

-- as many are free at a queue as of its handset
pub asked_free : (number : List ℕ) (o : Option PlacedQueue) (p : DeliveryQueuesDraftOf) (now : ℕ) → IsMsisdn number → o ≡ at (digits_key number) p
    → (g : Allocations) (links : Links) (w : List ℕ → List QueuedPart) → DraftRepresents g links w p
    → free_at (or_new number o) p.next_place now ≡ free_references (handset_of number (handsets_of g)) (w number) (references_of g) now
asked_free number o p now digits is g links w represents =
    let q : PlacedQueue = or_new number o in
    let hs : List HandsetRow = handsets_of g in
    let one = asked number o p digits is g links w represents in
    let handset : q.queue.link.handset ≡ number = ap (λ (l : HandsetLink). l.handset) one.queue.link ∙ link_of_handset number links.all in
    ap (λ (n : List ℕ). free_references (or_new_handset n p.next_place q.queue.row) q.queue.waiting q.queue.given now) handset
    ∙ ap (λ (n : ℕ). free_references (or_new_handset number n q.queue.row) q.queue.waiting q.queue.given now) represents.next_place
    ∙ sym (free_represented number hs (references_of g) q.queue.given q.queue.waiting q.queue.row now represents.sound (sym one.queue.row) one.queue.given)
    ∙ ap (λ (ls : List QueuedPart). free_references (or_new_handset number (place_after 1 hs) q.queue.row) ls (references_of g) now) one.queue.all_queued
    ∙ ap (λ (r : Option HandsetRow). free_references (or_new_handset number (place_after 1 hs) r) (w number) (references_of g) now) one.queue.row

-- no place is left for its handset
pub asked_place : (number : List ℕ) (p : DeliveryQueuesDraftOf) → IsMsisdn number → HasNoPlace p.next_place (placed_of number p).queue.row
    → (g : Allocations) (links : Links) (w : List ℕ → List QueuedPart) → DraftRepresents g links w p → HasNoPlace (place_after 1 (handsets_of g)) (handset_at number (handsets_of g))
asked_place number p digits none g links w represents =
    (sym (represents.each number digits).queue.row ∙ none.0, subst (λ (n : ℕ). 2 ^ 32 ≤ n) represents.next_place none.1)
