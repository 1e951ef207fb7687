-- What is represented after a move, as the code says what it did.
use Rattle.std.proofs.Common.{◌≡◌, ℕ, ◌<◌, ◌++◌, [], ◌∷◌, append-nil, List, nat_eq, Option, Some, Result, Ok, Err, refl, sym, ◌∙◌, ap, subst, eq-eqb, OnOk}
use Rattle.std.specs.Option.{option_or}
use Rattle.std.proofs.lemmas.Bool.{cond-false, cond-true, ne_eqb}
use Rattle.sms_base.specs.Msisdn.{IsMsisdn}
use Rattle.sms_rows.specs.table.Keys.{digits_key}
use Rattle.sms_rows.specs.table.Table.{put}
use Rattle.sms_link.specs.declared.outgoing.Outgoing.{Outgoing}
use Rattle.sms_link.specs.LinkTurn.{Turn}
use Rattle.sms_centre_rows.specs.declared.waiting.handset.HandsetRow.{HandsetRow}
use Rattle.sms_centre_rows.specs.declared.waiting.handset_link.HandsetLink.{HandsetLink}
use Rattle.sms_centre_rows.specs.declared.waiting.handset_link.Sent.{Sent}
use Rattle.sms_centre_rows.specs.declared.waiting.queued_part.QueuedPart.{QueuedPart}
use Rattle.sms_centre_rows.specs.waiting.Keys.{queued_key}
use Rattle.sms_centre_rows.specs.waiting.Links.{Links, link_of, put_link, to_handset, turn_link, turned, with_link}
use Rattle.sms_centre_rows.specs.waiting.References.{Allocations, give, handset_of, handsets_of, or_new_handset}
use Rattle.sms_centre_rows.specs.waiting.DeliveryQueues.{DeliveryQueueOf, queue_given, queue_on, queue_turned, queue_with}
use Rattle.sms_centre_rows.specs.waiting.SoundAllocations.{IsNumber}
use Rattle.sms_centre_queue.specs.declared.queues.placed_queue.PlacedQueue.{PlacedQueue}
use Rattle.sms_centre_queue.specs.queues.Queues.{Becomes, IsTaken, DeliveryQueuesDraftOf, link_place_now, counted, given_to, link_count_now, or_new, under, with_queue}
use Rattle.sms_centre_queue.specs.queues.Representing.{DraftRepresents, Waits}
use Rattle.sms_centre_queue.proofs.queues.Allocation.{given_next, number_digits}
use Rattle.sms_centre_queue.proofs.queues.Moving.{link_next, waits_next}
use Rattle.sms_centre_rows.proofs.waiting.LinksRepresented.{link_of_handset}

pub if_ok : {X E : Type 0} {P Q : Type 0} (r : Result X E) → (P → Q) → OnOk r P → OnOk r Q
if_ok (Ok x) f p = f p
if_ok (Err e) f p = p

-- ---- what waits

-- it was put back, whatever the change said
pub waits_done : {X E : Type 0} (number : List ℕ) (f : List QueuedPart → List QueuedPart) (q : PlacedQueue) (s : DeliveryQueueOf) (p mid new : DeliveryQueuesDraftOf) (r : Result X E) → IsMsisdn number → IsTaken number q p mid
    → OnOk r (s ≡ record q.queue { waiting = f q.queue.waiting }) → Becomes (digits_key number) (with_queue s q) mid new
    → OnOk r ((g : Allocations) (links : Links) (w w2 : List ℕ → List QueuedPart) → DraftRepresents g links w p → Waits number f w w2 → DraftRepresents g links w2 new)
waits_done number f q s p mid new r digits taken is becomes =
    if_ok r (λ (e : s ≡ record q.queue { waiting = f q.queue.waiting }).
    waits_next number f q p mid new digits taken (subst (λ (x : DeliveryQueueOf). Becomes (digits_key number) (with_queue x q) mid new) e becomes)) is

-- ---- a link

-- it was put back, whatever its note said
pub put_noted : {X E : Type 0} (key : ℕ) (placed placed2 : PlacedQueue) (old old2 new : DeliveryQueuesDraftOf) (r : Result X E) → OnOk r (placed ≡ placed2) → OnOk r (old ≡ old2)
    → Becomes key placed old new → OnOk r (Becomes key placed2 old2 new)
put_noted key placed placed2 old old2 new (Ok x) is was becomes =
    subst (λ (o : DeliveryQueuesDraftOf). Becomes key placed2 o new) was (subst (λ (q : PlacedQueue). Becomes key q old new) is becomes)
put_noted key placed placed2 old old2 new (Err e) is was becomes = is

-- what stands after a link was put back
abbrev pub LinkPut : List ℕ → PlacedQueue → DeliveryQueueOf → List Outgoing → DeliveryQueuesDraftOf → DeliveryQueuesDraftOf → Type 0
LinkPut number q s frames mid new =
    Becomes (digits_key number) (record { queue = s; link_place = link_place_now q.link_place mid.link_count }) (counted (link_count_now q.link_place mid.link_count) (mid.frames ++ to_handset number frames) mid) new

pub link_ok : {X E : Type 0} (number : List ℕ) (f : HandsetLink → HandsetLink) (q : PlacedQueue) (s : DeliveryQueueOf) (none : List Outgoing) (p mid new : DeliveryQueuesDraftOf) (r : Result X E) → IsMsisdn number → ((l : HandsetLink) → (f l).handset ≡ l.handset) → IsTaken number q p mid
    → s ≡ queue_on (f q.queue.link) q.queue → none ≡ [] → OnOk r (LinkPut number q s none mid new)
    → OnOk r ((g : Allocations) (links : Links) (w : List ℕ → List QueuedPart) → DraftRepresents g links w p → DraftRepresents g (put_link (f (link_of number links.all)) links) w new)
link_ok number f q s none p mid new r digits keeps taken is empty becomes =
    if_ok r (λ (b : LinkPut number q s none mid new) (g : Allocations) (links : Links) (w : List ℕ → List QueuedPart) (represents : DraftRepresents g links w p).
    subst (λ (fs : List Sent). DraftRepresents g (record links { all = with_link (f (link_of number links.all)) links.all; frames = fs }) w new) (append-nil links.frames)
    (link_next number f (λ l. []) q p mid new digits keeps taken (subst (λ (x : List Outgoing). LinkPut number q (queue_on (f q.queue.link) q.queue) x mid new) empty (subst (λ (x : DeliveryQueueOf). LinkPut number q x none mid new) is b)) g links w represents)) becomes

turn_next : (number : List ℕ) (turn : HandsetLink → Turn) (q : PlacedQueue) (s : DeliveryQueueOf) (frames : List Outgoing) (p mid new : DeliveryQueuesDraftOf) → IsMsisdn number → IsTaken number q p mid
    → s ≡ queue_turned (turn q.queue.link) q.queue → frames ≡ (turn q.queue.link).out.frames → LinkPut number q s frames mid new
    → (g : Allocations) (links : Links) (w : List ℕ → List QueuedPart) → DraftRepresents g links w p → DraftRepresents g (turn_link (link_of number links.all) (turn (link_of number links.all)) links) w new
turn_next number turn q s frames p mid new digits taken is sent becomes g links w represents =
    let link : HandsetLink = link_of number links.all in
    subst (λ (n : List ℕ). DraftRepresents g (record links { all = with_link (turned (turn link) link) links.all; frames = links.frames ++ to_handset n (turn link).out.frames }) w new)
    (sym (link_of_handset number links.all))
    (link_next number (λ l. turned (turn l) l) (λ l. (turn l).out.frames) q p mid new digits (λ l. refl) taken
    (subst (λ (x : List Outgoing). LinkPut number q (queue_turned (turn q.queue.link) q.queue) x mid new) sent (subst (λ (x : DeliveryQueueOf). LinkPut number q x frames mid new) is becomes))
    g links w represents)

pub turn_ok : {X E : Type 0} (number : List ℕ) (turn : HandsetLink → Turn) (q : PlacedQueue) (s : DeliveryQueueOf) (frames : List Outgoing) (p mid new : DeliveryQueuesDraftOf) (r : Result X E) → IsMsisdn number → IsTaken number q p mid
    → s ≡ queue_turned (turn q.queue.link) q.queue → frames ≡ (turn q.queue.link).out.frames → OnOk r (LinkPut number q s frames mid new)
    → OnOk r ((g : Allocations) (links : Links) (w : List ℕ → List QueuedPart) → DraftRepresents g links w p → DraftRepresents g (turn_link (link_of number links.all) (turn (link_of number links.all)) links) w new)
turn_ok number turn q s frames p mid new r digits taken is sent becomes = if_ok r (turn_next number turn q s frames p mid new digits taken is sent) becomes

-- ---- a reference

-- a queue that becomes another one has become this one before that
before : ℕ → PlacedQueue → DeliveryQueuesDraftOf → DeliveryQueuesDraftOf
before key q p = record p { touched = (key, q) ∷ p.touched }

under_first : (key : ℕ) (q : PlacedQueue) (es : List (ℕ × PlacedQueue)) → under key ((key, q) ∷ es) ≡ Some q
under_first key q es = cond-true (nat_eq key key) (Some q) (under key es) (eq-eqb key key refl)

under_rest : (key k : ℕ) (q : PlacedQueue) (es : List (ℕ × PlacedQueue)) → ¬ (k ≡ key) → under k ((key, q) ∷ es) ≡ under k es
under_rest key k q es other = cond-false (nat_eq k key) (Some q) (under k es) (ne_eqb k key other)

becomes_before : (key : ℕ) (q placed : PlacedQueue) (old new : DeliveryQueuesDraftOf) → Becomes key placed old new → Becomes key q old (before key q new)
unfolding before
becomes_before key q placed old new becomes = record {
  own = under_first key q new.touched;
  others = λ k other. under_rest key k q new.touched other ∙ becomes.others k other;
  rest = ap (λ (x : DeliveryQueuesDraftOf). record x { touched = (key, q) ∷ new.touched }) becomes.rest;
}

becomes_after : (key : ℕ) (q placed : PlacedQueue) (old new : DeliveryQueuesDraftOf) → Becomes key placed old new → Becomes key placed (before key q new) new
unfolding before
becomes_after key q placed old new becomes = record {
  own = becomes.own;
  others = λ k other. sym (under_rest key k q new.touched other);
  rest = refl;
}

taken_before : (number : List ℕ) (q : PlacedQueue) (new : DeliveryQueuesDraftOf) → IsTaken number q (before (digits_key number) q new) (before (digits_key number) q new)
unfolding before
taken_before number q new = record {
  is = sym (ap (λ (o : Option PlacedQueue). or_new number (option_or o (under (digits_key number) new.base.queues))) (under_first (digits_key number) q new.touched));
  others = λ k other. refl;
  rest = refl;
}

pub given_done : {X E : Type 0} (number : List ℕ) (now : ℕ) (l : QueuedPart) (q placed : PlacedQueue) (p mid noted new : DeliveryQueuesDraftOf) (r : Result X E) → IsNumber number → l.reference < 256 → IsTaken number q p mid
    → OnOk r (noted ≡ given_to (or_new_handset q.queue.link.handset mid.next_place q.queue.row) q.queue.row l.reference now mid)
    → OnOk r (placed ≡ with_queue (queue_with l (queue_given (or_new_handset q.queue.link.handset mid.next_place q.queue.row) l.reference now q.queue)) q)
    → Becomes (digits_key number) placed noted new
    → OnOk r ((g : Allocations) (links : Links) (w w2 : List ℕ → List QueuedPart) → DraftRepresents g links w p → Waits number (put queued_key l) w w2
    → DraftRepresents (give (handset_of number (handsets_of g)) l.reference now g) links w2 new)
given_done number now l q placed p mid noted new r is small taken noted_is placed_is becomes =
    let key : ℕ = digits_key number in
    let row : HandsetRow = or_new_handset q.queue.link.handset mid.next_place q.queue.row in
    let given : PlacedQueue = with_queue (queue_given row l.reference now q.queue) q in
    let waits : PlacedQueue = with_queue (queue_with l (queue_given row l.reference now q.queue)) q in
    let to : DeliveryQueuesDraftOf = given_to row q.queue.row l.reference now mid in
    let between : DeliveryQueuesDraftOf = before key given new in
    if_ok r (λ (b : Becomes key waits to new) (g : Allocations) (links : Links) (w w2 : List ℕ → List QueuedPart) (represents : DraftRepresents g links w p) (comes : Waits number (put queued_key l) w w2).
    waits_next number (put queued_key l) given between between new (number_digits number is) (taken_before number given new) (becomes_after key given waits to new b)
    (give (handset_of number (handsets_of g)) l.reference now g) links w w2
    (given_next number row l.reference now q p mid between is small taken refl (becomes_before key given waits to new b) g links w represents) comes)
    (put_noted key placed waits noted to new r placed_is noted_is becomes)
