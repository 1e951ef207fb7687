-- Looking at the queues that were touched and at those of the index finds all handsets that an event concerns.
use Rattle.std.proofs.Common.{◌≡◌, ℕ, ◌≤◌, ◌<◌, List, [], ◌∷◌, Bool, true, false, nat_eq, Option, Some, None, refl, sym, ◌∙◌, ap, subst, ⊎_elim, cond, is_some, is_none, eq-eqb, arith}
use Rattle.std.specs.Map.{lookup}
use Rattle.std.specs.Option.{option_or}
use Rattle.std.specs.Prelude.{not, ◌==◌, ◌&&◌, ◌||◌, nat_le, if◌then◌else◌}
use Rattle.std.proofs.lemmas.Bool.{and_from, and_parts, cases_Bool, cases_eq, cond-true, cond-false, ne_eqb, leb-true, le-leb}
use Rattle.sms_base.specs.Among.{Among}
use Rattle.sms_control.specs.DueTimers.{is_due, is_timed}
use Rattle.sms_control.specs.LinkStep.{is_busy}
use Rattle.sms_control.proofs.QuietTimers.{due_is_timed}
use Rattle.sms_base.specs.Msisdn.{IsMsisdn}
use Rattle.sms_rows.specs.table.Keys.{digits_key}
use Rattle.sms_rows.specs.table.Table.{Rises, row_at}
use Rattle.sms_rows.proofs.table.Tables.{among_found}
use Rattle.sms_centre_rows.specs.declared.waiting.handset.HandsetRow.{HandsetRow}
use Rattle.sms_centre_rows.specs.declared.waiting.handset_link.HandsetLink.{HandsetLink}
use Rattle.sms_centre_rows.specs.declared.waiting.queued_part.QueuedPart.{QueuedPart}
use Rattle.sms_centre_rows.specs.declared.waiting.reference.ReferenceRow.{ReferenceRow}
use Rattle.sms_centre_rows.specs.waiting.Keys.{handset_key}
use Rattle.sms_centre_rows.specs.waiting.Links.{Links, is_ready, link_of}
use Rattle.sms_centre_rows.specs.waiting.References.{Allocations, handset_at, handsets_of, references_of}
use Rattle.sms_centre_rows.specs.waiting.Waiting.{if_due, next, preceding}
use Rattle.sms_centre_rows.proofs.waiting.Mentions.{number_found, number_none}
use Rattle.sms_centre_rows.proofs.waiting.LinksRepresented.{link_of_handset}
use Rattle.sms_centre_queue.specs.declared.queues.placed_queue.PlacedQueue.{PlacedQueue}
use Rattle.sms_centre_queue.specs.declared.queues.concern.ConcernedHandset.{ConcernedHandset}
use Rattle.sms_centre_queue.specs.declared.queues.concern.Concern.{Concern}
use Rattle.sms_centre_queue.specs.declared.queues.concern.Concern.TheVariants.{Offer, Fire, FireUnmentioned, Awaited}
use Rattle.sms_centre_queue.specs.queues.Keys.{stop_key}
use Rattle.sms_centre_queue.specs.queues.LinkOrder.{link_place_in}
use Rattle.sms_centre_queue.specs.queues.Queues.{DeliveryQueuesDraftOf, at, is_listed, new_placed, or_new, placed_of, under}
use Rattle.sms_centre_queue.specs.queues.Representing.{Indexed, DraftRepresents, RepresentsPlaced}
use Rattle.sms_centre_queue.specs.queues.Stops.{all_noted, found, is_active, is_stop, is_wanted, link_order, link_stops, mention_stops, order_of, place_of, rests_for, scanned, stop_at, stop_if, stop_in, stops_of}
use Rattle.sms_centre_queue.proofs.queues.Allocation.{number_digits}
use Rattle.sms_centre_queue.proofs.queues.Scanning.{empty_before, empty_there, among_filter, filter_among, preserved_noted, noted_there, rises_filter, rises_noted, same_rows, seen_noted}
use Rattle.sms_centre_queue.proofs.queues.StopOrder.{among_link_stop, among_mention, link_stop_among, links_rise, mention_among, mentions_rise}

-- ---- the stop at one queue

-- it is wanted, and stands in the order
record IsStopAt (purpose : Concern) (q : PlacedQueue) (x : ConcernedHandset) : Type 0 where
  is : is_wanted purpose q.queue.row q.queue.link q.queue.waiting ≡ true
  order : order_of purpose q ≡ Some x.order
  number : x.number ≡ q.queue.link.handset

stop_seen : (purpose : Concern) (q : PlacedQueue) (x : ConcernedHandset) → stop_at purpose q ≡ Some x → IsStopAt purpose q x
stop_seen purpose q x e = ⊎_elim
    (λ (t : is_wanted purpose q.queue.row q.queue.link q.queue.waiting ≡ true).
    by t (order_of purpose q) refl (sym (cond-true (is_wanted purpose q.queue.row q.queue.link q.queue.waiting) (stop_in q (order_of purpose q)) None t) ∙ e))
    (λ (t : is_wanted purpose q.queue.row q.queue.link q.queue.waiting ≡ false).
    let bad : None ≡ Some x = sym (cond-false (is_wanted purpose q.queue.row q.queue.link q.queue.waiting) (stop_in q (order_of purpose q)) None t) ∙ e in absurd cc)
    (cases_Bool (is_wanted purpose q.queue.row q.queue.link q.queue.waiting))
  where
    by : is_wanted purpose q.queue.row q.queue.link q.queue.waiting ≡ true → (o : Option ℕ) → order_of purpose q ≡ o → stop_in q o ≡ Some x → IsStopAt purpose q x
    by t None is s = absurd cc
    by t (Some n) is s =
        let same : Some (record { order = n; number = q.queue.link.handset }) ≡ Some x = s in
        let one : record { order = n; number = q.queue.link.handset } ≡ x = cc in
        record { is = t; order = is ∙ ap (λ (y : ConcernedHandset). Some y.order) one; number = sym (ap (λ (y : ConcernedHandset). y.number) one) }

stop_made : (purpose : Concern) (q : PlacedQueue) (x : ConcernedHandset) → IsStopAt purpose q x → stop_at purpose q ≡ Some x
stop_made purpose q x s =
    cond-true (is_wanted purpose q.queue.row q.queue.link q.queue.waiting) (stop_in q (order_of purpose q)) None s.is
    ∙ ap (λ (o : Option ℕ). stop_in q o) s.order ∙ ap (λ (n : List ℕ). Some (record { order = x.order; number = n })) (sym s.number)

-- nothing was heard of it
no_order : (purpose : Concern) (number : List ℕ) → order_of purpose (new_placed number) ≡ None
no_order (Offer now) number = refl
no_order (Fire now) number = refl
no_order (FireUnmentioned now) number = refl
no_order Awaited number = refl

-- ---- what such an event can concern stands in the index

ready_up : (l : HandsetLink) → is_ready l ≡ true → l.is_up ≡ true
ready_up l e = (and_parts l.is_up (not l.is_full && not (is_busy l.near_end.links)) e).0

active_up : (l : HandsetLink) → l.is_up ≡ true → is_active l ≡ true
active_up l t = cond-true l.is_up true (cond l.is_awaited true (is_timed l.near_end.links)) t

active_timed : (l : HandsetLink) → is_timed l.near_end.links ≡ true → is_active l ≡ true
active_timed l t = ⊎_elim
    (λ (u : l.is_up ≡ true). active_up l u)
    (λ (u : l.is_up ≡ false). cond-false l.is_up true (cond l.is_awaited true (is_timed l.near_end.links)) u ∙ ⊎_elim
    (λ (a : l.is_awaited ≡ true). cond-true l.is_awaited true (is_timed l.near_end.links) a)
    (λ (a : l.is_awaited ≡ false). cond-false l.is_awaited true (is_timed l.near_end.links) a ∙ t)
    (cases_Bool l.is_awaited))
    (cases_Bool l.is_up)

active_awaited : (l : HandsetLink) → l.is_awaited ≡ true → is_active l ≡ true
active_awaited l a = ⊎_elim
    (λ (u : l.is_up ≡ true). active_up l u)
    (λ (u : l.is_up ≡ false). cond-false l.is_up true (cond l.is_awaited true (is_timed l.near_end.links)) u
    ∙ cond-true l.is_awaited true (is_timed l.near_end.links) a)
    (cases_Bool l.is_up)

wanted_active : (purpose : Concern) (row : Option HandsetRow) (l : HandsetLink) (ls : List QueuedPart) → is_wanted purpose row l ls ≡ true → is_active l ≡ true
wanted_active (Offer now) row l ls e = active_up l (ready_up l (and_parts (is_ready l) (is_some (next now ls)) e).0)
wanted_active (Fire now) row l ls e = active_timed l (due_is_timed now l.near_end.links e)
wanted_active (FireUnmentioned now) row l ls e = active_timed l (due_is_timed now l.near_end.links (and_parts (is_none row) (is_due now l.near_end.links) e).1)
wanted_active Awaited row l ls e = active_awaited l e

-- ---- what is due is due later on

either_some : (a b : Option QueuedPart) → is_some (preceding a b) ≡ is_some a || is_some b
either_some None b = refl
either_some (Some a) None = refl
either_some (Some a) (Some b) = refl

if_due_later : (now moment : ℕ) (l : QueuedPart) → now ≤ moment → is_some (if_due now l) ≡ true → is_some (if_due moment l) ≡ true
if_due_later now moment l later e = ⊎_elim
    (λ (t : nat_le l.due now ≡ true).
    let before = leb-true l.due now t in
    let still : nat_le l.due moment ≡ true = le-leb l.due moment (omega (arith, before, later)) in
    ap (λ (o : Option QueuedPart). is_some o) (cond-true (nat_le l.due moment) (Some l) None still))
    (λ (t : nat_le l.due now ≡ false).
    let bad : false ≡ true = sym (ap (λ (o : Option QueuedPart). is_some o) (cond-false (nat_le l.due now) (Some l) None t)) ∙ e in absurd cc)
    (cases_Bool (nat_le l.due now))

next_later : (now moment : ℕ) (ls : List QueuedPart) → now ≤ moment → is_some (next now ls) ≡ true → is_some (next moment ls) ≡ true
next_later now moment [] later e = e
next_later now moment (l ∷ ls) later e =
    either_some (if_due moment l) (next moment ls)
    ∙ both (is_some (if_due now l)) (is_some (next now ls)) (is_some (if_due moment l)) (is_some (next moment ls)) (sym (either_some (if_due now l) (next now ls)) ∙ e)
    (if_due_later now moment l later) (next_later now moment ls later)
  where
    both : (a b c d : Bool) → a || b ≡ true → (a ≡ true → c ≡ true) → (b ≡ true → d ≡ true) → c || d ≡ true
    both true b c d e f g = ap (λ (x : Bool). x || d) (f refl)
    both false b true d e f g = refl
    both false b false d e f g = g e

offer_later : (now moment : ℕ) (q : PlacedQueue) (x : ConcernedHandset) → now ≤ moment → stop_at (Offer now) q ≡ Some x → stop_at (Offer moment) q ≡ Some x
offer_later now moment q x later e =
    let s = stop_seen (Offer now) q x e in
    let parts = and_parts (is_ready q.queue.link) (is_some (next now q.queue.waiting)) s.is in
    stop_made (Offer moment) q x (record {
      is = and_from (is_ready q.queue.link) (is_some (next moment q.queue.waiting)) parts.0 (next_later now moment q.queue.waiting later parts.1);
      order = s.order;
      number = s.number;
    })

-- ---- the queue of a stop

-- the handset stands in the order, and the event concerns it
abbrev IsFound : Concern → Allocations → Links → (List ℕ → List QueuedPart) → ConcernedHandset → Type 0
IsFound purpose g links w x = Among x (stops_of purpose (handsets_of g) links.all) × (is_stop purpose (handsets_of g) links.all w x ≡ true)

stops_rise : (purpose : Concern) (g : Allocations) (links : Links) (w : List ℕ → List QueuedPart) (p : DeliveryQueuesDraftOf) → DraftRepresents g links w p → Rises stop_key (stops_of purpose (handsets_of g) links.all)
stops_rise (Offer now) g links w p represents = mentions_rise (handsets_of g) represents.sound.handset_keys
stops_rise (Fire now) g links w p represents = mentions_rise (handsets_of g) represents.sound.handset_keys
stops_rise (FireUnmentioned now) g links w p represents = links_rise 1 links.all
stops_rise Awaited g links w p represents = links_rise 1 links.all

-- a handset of the rows is found under its number
row_found : (hs : List HandsetRow) (h : HandsetRow) (o : Option HandsetRow) → Rises handset_key hs → ((f g : HandsetRow) → Among f hs → Among g hs → f.number ≡ g.number → f.place ≡ g.place) → Among h hs
    → handset_at h.number hs ≡ o → o ≡ Some h
row_found hs h None rises apart m none = absurd (number_none h.number h hs none m refl)
row_found hs h (Some f) rises apart m is =
    let there = number_found h.number f hs is in
    let place : f.place ≡ h.place = apart f h there.0 m there.1 in
    let one : Some f ≡ Some h = sym (among_found handset_key f hs rises there.0) ∙ ap (λ (n : ℕ). row_at handset_key n hs) place ∙ among_found handset_key h hs rises m in
    one

place_some : (number : List ℕ) (hs : List HandsetRow) (o : Option HandsetRow) (k : ℕ) → handset_at number hs ≡ o → place_of o ≡ Some k → Among (record { order = k; number = number }) (mention_stops hs)
place_some number hs None k is e = absurd cc
place_some number hs (Some h) k is e =
    let place : Some h.place ≡ Some k = e in
    let same : h.place ≡ k = cc in
    let there = number_found number h hs is in
    subst (λ (s : ConcernedHandset). Among s (mention_stops hs))
    (ap (λ (n : ℕ). record { order = n; number = h.number }) same ∙ ap (λ (n : List ℕ). record { order = k; number = n }) there.1)
    (mention_among h hs there.0)

link_some : (number : List ℕ) (ls : List HandsetLink) (link_place k : ℕ) → link_place_in number ls ≡ link_place → link_order link_place ≡ Some k → Among (record { order = k; number = number }) (link_stops 1 ls)
link_some number ls link_place k is e = ⊎_elim
    (λ (t : (link_place == 0) ≡ true). let bad : None ≡ Some k = sym (cond-true (link_place == 0) None (Some link_place) t) ∙ e in absurd cc)
    (λ (t : (link_place == 0) ≡ false).
    let same : Some link_place ≡ Some k = sym (cond-false (link_place == 0) None (Some link_place) t) ∙ e in
    let order : link_place ≡ k = cc in
    let some : 0 < k = subst (λ (n : ℕ). 0 < n) order (positive link_place t) in
    link_stop_among 1 k number ls (is ∙ order) some)
    (cases_Bool (link_place == 0))
  where
    positive : (n : ℕ) → (n == 0) ≡ false → 0 < n
    positive n t = ⊎_elim
        (λ (e : n ≡ 0). let y : (n == 0) ≡ true = eq-eqb n 0 e in absurd cc)
        (λ (e : n ≡ 0 → ⊥). omega (arith, e))
        (cases_eq n 0)

-- a queue that shows a handset has a stop only in the handset's place
stop_placed : (purpose : Concern) (number : List ℕ) (hs : List HandsetRow) (rs : List ReferenceRow) (ls : List QueuedPart) (links : List HandsetLink) (q : PlacedQueue) (k : ℕ)
    → RepresentsPlaced number hs rs ls links q → order_of purpose q ≡ Some k → Among (record { order = k; number = number }) (stops_of purpose hs links)
stop_placed (Offer now) number hs rs ls links q k represents e = place_some number hs q.queue.row k (sym represents.queue.row) e
stop_placed (Fire now) number hs rs ls links q k represents e = place_some number hs q.queue.row k (sym represents.queue.row) e
stop_placed (FireUnmentioned now) number hs rs ls links q k represents e = link_some number links q.link_place k (sym represents.link_place) e
stop_placed Awaited number hs rs ls links q k represents e = link_some number links q.link_place k (sym represents.link_place) e

-- whether it is wanted is told by what it shows
wanted_represented : (purpose : Concern) (number : List ℕ) (g : Allocations) (links : Links) (w : List ℕ → List QueuedPart) (q : PlacedQueue) → RepresentsPlaced number (handsets_of g) (references_of g) (w number) links.all q
    → is_wanted purpose q.queue.row q.queue.link q.queue.waiting ≡ is_wanted purpose (handset_at number (handsets_of g)) (link_of number links.all) (w number)
wanted_represented purpose number g links w q represents =
    ap (λ (o : Option HandsetRow). is_wanted purpose o q.queue.link q.queue.waiting) represents.queue.row
    ∙ ap (λ (l : HandsetLink). is_wanted purpose (handset_at number (handsets_of g)) l q.queue.waiting) represents.queue.link
    ∙ ap (λ (ls : List QueuedPart). is_wanted purpose (handset_at number (handsets_of g)) (link_of number links.all) ls) represents.queue.all_queued

-- ---- what is seen is found

seen_found : (purpose : Concern) (g : Allocations) (links : Links) (w : List ℕ → List QueuedPart) (p : DeliveryQueuesDraftOf) (x : ConcernedHandset) (key : ℕ) (o : Option PlacedQueue) → DraftRepresents g links w p → at key p ≡ o → stop_if purpose o ≡ Some x
    → IsFound purpose g links w x
seen_found purpose g links w p x key None represents is e = absurd cc
seen_found purpose g links w p x key (Some q) represents is e =
    let named = represents.named key q is in
    let number : List ℕ = q.queue.link.handset in
    let here : placed_of number p ≡ q = ap (λ (o : Option PlacedQueue). or_new number o) (ap (λ (k : ℕ). at k p) named.key_is ∙ is) in
    let one : RepresentsPlaced number (handsets_of g) (references_of g) (w number) links.all q =
    subst (λ (y : PlacedQueue). RepresentsPlaced number (handsets_of g) (references_of g) (w number) links.all y) here (represents.each number named.digits) in
    let s = stop_seen purpose q x e in
    let x_is : record { order = x.order; number = number } ≡ x = ap (λ (n : List ℕ). record { order = x.order; number = n }) (sym s.number) in (
      subst (λ (y : ConcernedHandset). Among y (stops_of purpose (handsets_of g) links.all)) x_is (stop_placed purpose number (handsets_of g) (references_of g) (w number) links.all q x.order one s.order),
      subst (λ (n : List ℕ). is_wanted purpose (handset_at n (handsets_of g)) (link_of n links.all) (w n) ≡ true) (sym s.number) (sym (wanted_represented purpose number g links w q one) ∙ s.is),
    )

-- ---- what is to be found has its queue

abbrev IsPlaced : Concern → PlacedQueue → ConcernedHandset → Type 0
IsPlaced purpose q x = order_of purpose q ≡ Some x.order

digits_stop : (purpose : Concern) (g : Allocations) (links : Links) (w : List ℕ → List QueuedPart) (p : DeliveryQueuesDraftOf) (x : ConcernedHandset) → DraftRepresents g links w p → Among x (stops_of purpose (handsets_of g) links.all)
    → IsMsisdn x.number × ((q : PlacedQueue) → RepresentsPlaced x.number (handsets_of g) (references_of g) (w x.number) links.all q → IsPlaced purpose q x)
digits_stop purpose g links w p x represents m = by purpose m where
  mention : Among x (mention_stops (handsets_of g))
      → IsMsisdn x.number × ((q : PlacedQueue) → RepresentsPlaced x.number (handsets_of g) (references_of g) (w x.number) links.all q → place_of q.queue.row ≡ Some x.order)
  mention m =
      let r = among_mention x (handsets_of g) m in
      let h : HandsetRow = r.0 in
      let number : x.number ≡ h.number = ap (λ (s : ConcernedHandset). s.number) r.1.1 in
      let order : x.order ≡ h.place = ap (λ (s : ConcernedHandset). s.order) r.1.1 in
      let is = (represents.sound.mentioned h r.1.0).number in (
        subst IsMsisdn (sym number) (number_digits h.number is),
        λ q s.
            ap place_of (s.queue.row ∙ ap (λ (n : List ℕ). handset_at n (handsets_of g)) number
            ∙ row_found (handsets_of g) h (handset_at h.number (handsets_of g)) represents.sound.handset_keys represents.sound.apart r.1.0 refl)
            ∙ ap (λ (n : ℕ). Some n) (sym order),
      )

  link : Among x (link_stops 1 links.all)
      → IsMsisdn x.number × ((q : PlacedQueue) → RepresentsPlaced x.number (handsets_of g) (references_of g) (w x.number) links.all q → link_order q.link_place ≡ Some x.order)
  link m =
      let r = among_link_stop 1 x links.all (omega arith) represents.apart m in (
        subst IsMsisdn (sym r.1.1) (represents.digits r.0 r.1.0),
        λ q s.
            let link_place : q.link_place ≡ x.order = s.link_place ∙ r.1.2 in
            let some : (q.link_place == 0) ≡ false = ne_eqb q.link_place 0 (λ e. let l = r.1.3 in absurd (omega (arith, e, link_place, l))) in
            cond-false (q.link_place == 0) None (Some q.link_place) some ∙ ap (λ (n : ℕ). Some n) link_place,
      )

  by : (purpose : Concern) → Among x (stops_of purpose (handsets_of g) links.all)
      → IsMsisdn x.number × ((q : PlacedQueue) → RepresentsPlaced x.number (handsets_of g) (references_of g) (w x.number) links.all q → IsPlaced purpose q x)
  by (Offer now) m = mention m
  by (Fire now) m = mention m
  by (FireUnmentioned now) m = link m
  by Awaited m = link m

-- ---- where it is looked for

-- a stop is among those that are looked at: touched, or in the index where it is looked through
looked_at : (purpose : Concern) (p : DeliveryQueuesDraftOf) (key : ℕ) (x : ConcernedHandset) (touched base : Option PlacedQueue) → Indexed p.base → ((s : ConcernedHandset) → ((k : ℕ) × (stop_if purpose (at k p) ≡ Some s)) → stop_key x ≡ stop_key s → x ≡ s)
    → under key p.touched ≡ touched → under key p.base.queues ≡ base → stop_if purpose (option_or touched base) ≡ Some x → Among x (scanned purpose p)
looked_at purpose p key x (Some q) base indexed alone there below e =
    let is : at key p ≡ Some q = ap (λ (o : Option PlacedQueue). option_or o (under key p.base.queues)) there in
    let seen : stop_if purpose (at key p) ≡ Some x = ap (λ (o : Option PlacedQueue). stop_if purpose o) is ∙ e in
    let early : Among x (all_noted purpose p p.touched []) = noted_there purpose p x key q p.touched [] alone there seen in
    either (rests_for purpose p.base.rested) early (preserved_noted purpose p x p.base.index (all_noted purpose p p.touched []) alone early)
  where
    either : (b : Bool) → Among x (all_noted purpose p p.touched []) → Among x (all_noted purpose p p.base.index (all_noted purpose p p.touched []))
        → Among x (if b then all_noted purpose p p.touched [] else all_noted purpose p p.base.index (all_noted purpose p p.touched []))
    either true a b = a
    either false a b = b
looked_at purpose p key x None None indexed alone there below e = absurd cc
looked_at purpose p key x None (Some q) indexed alone there below e =
    let is : at key p ≡ Some q =
    ap (λ (o : Option PlacedQueue). option_or o (under key p.base.queues)) there ∙ below in
    let seen : stop_if purpose (at key p) ≡ Some x = ap (λ (o : Option PlacedQueue). stop_if purpose o) is ∙ e in
    ⊎_elim
    (λ (t : rests_for purpose p.base.rested ≡ true). absurd (resting purpose p.base.rested refl t e))
    (λ (t : rests_for purpose p.base.rested ≡ false).
    let s = stop_seen purpose q x e in
    let listed : is_listed key p.base.index ≡ true = indexed.active key q below (wanted_active purpose q.queue.row q.queue.link q.queue.waiting s.is) in
    let there_is = some_there (lookup (nat_eq key) p.base.index) refl listed in
    subst (λ (l : List ConcernedHandset). Among x l)
    (sym (cond-false (rests_for purpose p.base.rested) (all_noted purpose p p.touched []) (all_noted purpose p p.base.index (all_noted purpose p p.touched [])) t))
    (noted_there purpose p x key there_is.0 p.base.index (all_noted purpose p p.touched []) alone there_is.1 seen))
    (cases_Bool (rests_for purpose p.base.rested))
  where
    some_there : (o : Option (Unit {0})) → lookup (nat_eq key) p.base.index ≡ o → is_some o ≡ true → (v : Unit {0}) × (lookup (nat_eq key) p.base.index ≡ Some v)
    some_there None i t = absurd cc
    some_there (Some v) i t = (v, i)

    resting : (purpose : Concern) (m : Option ℕ) → p.base.rested ≡ m → rests_for purpose m ≡ true → stop_at purpose q ≡ Some x → ⊥
    resting (Offer now) None i t s = absurd cc
    resting (Offer now) (Some moment) i t s =
        let later = leb-true now moment t in
        let bad : None ≡ Some x = sym (indexed.rested moment key q i below) ∙ offer_later now moment q x later s in absurd cc
    resting (Fire now) m i t s = absurd cc
    resting (FireUnmentioned now) m i t s = absurd cc
    resting Awaited m i t s = absurd cc

-- ---- both

scan_rises : (purpose : Concern) (p : DeliveryQueuesDraftOf) → Rises stop_key (scanned purpose p)
scan_rises purpose p = by (rests_for purpose p.base.rested) where
  early : Rises stop_key (all_noted purpose p p.touched [])
  early = rises_noted purpose p p.touched [] tt

  by : (b : Bool) → Rises stop_key (if b then all_noted purpose p p.touched [] else all_noted purpose p p.base.index (all_noted purpose p p.touched []))
  by true = early
  by false = rises_noted purpose p p.base.index (all_noted purpose p p.touched []) early

scan_seen : (purpose : Concern) (p : DeliveryQueuesDraftOf) (x : ConcernedHandset) → Among x (scanned purpose p) → (key : ℕ) × (stop_if purpose (at key p) ≡ Some x)
scan_seen purpose p x m = by (rests_for purpose p.base.rested) m where
  early : Among x (all_noted purpose p p.touched []) → (key : ℕ) × (stop_if purpose (at key p) ≡ Some x)
  early m = ⊎_elim
      (λ (n : Among x []). elim n [ ])
      (λ (s : (key : ℕ) × (stop_if purpose (at key p) ≡ Some x)). s)
      (seen_noted purpose p x p.touched [] m)

  by : (b : Bool) → Among x (if b then all_noted purpose p p.touched [] else all_noted purpose p p.base.index (all_noted purpose p p.touched [])) → (key : ℕ) × (stop_if purpose (at key p) ≡ Some x)
  by true m = early m
  by false m = ⊎_elim early (λ (s : (key : ℕ) × (stop_if purpose (at key p) ≡ Some x)). s) (seen_noted purpose p x p.base.index (all_noted purpose p p.touched []) m)

pub scan_finds : (purpose : Concern) (g : Allocations) (links : Links) (w : List ℕ → List QueuedPart) (p : DeliveryQueuesDraftOf) → DraftRepresents g links w p → scanned purpose p ≡ found purpose (handsets_of g) links.all w
scan_finds purpose g links w p represents =
    let rises = stops_rise purpose g links w p represents in
    same_rows stop_key (scanned purpose p) (found purpose (handsets_of g) links.all w) (scan_rises purpose p)
    (rises_filter (is_stop purpose (handsets_of g) links.all w) stop_key (stops_of purpose (handsets_of g) links.all) rises)
    (λ x m.
    let s = scan_seen purpose p x m in
    let f = seen_found purpose g links w p x s.0 (at s.0 p) represents refl s.1 in
    filter_among (is_stop purpose (handsets_of g) links.all w) x (stops_of purpose (handsets_of g) links.all) f.0 f.1)
    (λ x m.
    let f = among_filter (is_stop purpose (handsets_of g) links.all w) x (stops_of purpose (handsets_of g) links.all) m in
    let d = digits_stop purpose g links w p x represents f.0 in
    let q : PlacedQueue = placed_of x.number p in
    let one = represents.each x.number d.0 in
    let made : stop_at purpose q ≡ Some x = stop_made purpose q x (record {
      is = wanted_represented purpose x.number g links w q one ∙ f.1;
      order = d.1 q one;
      number = sym (ap (λ (l : HandsetLink). l.handset) one.queue.link ∙ link_of_handset x.number links.all);
    }) in
    looked_at purpose p (digits_key x.number) x (under (digits_key x.number) p.touched) (under (digits_key x.number) p.base.queues) represents.indexed
    (λ s seen same. alone g links w p x s represents rises f.0 (seen_found purpose g links w p s seen.0 (at seen.0 p) represents refl seen.1).0 same)
    refl refl (there purpose x.number (at (digits_key x.number) p) x made))
  where
    -- stops in the same place are the same
    alone : (g : Allocations) (links : Links) (w : List ℕ → List QueuedPart) (p : DeliveryQueuesDraftOf) (x s : ConcernedHandset) → DraftRepresents g links w p → Rises stop_key (stops_of purpose (handsets_of g) links.all)
        → Among x (stops_of purpose (handsets_of g) links.all) → Among s (stops_of purpose (handsets_of g) links.all) → stop_key x ≡ stop_key s → x ≡ s
    alone g links w p x s represents rises m n e =
        let one : Some x ≡ Some s = sym (among_found stop_key x (stops_of purpose (handsets_of g) links.all) rises m)
        ∙ ap (λ (k : ℕ). row_at stop_key k (stops_of purpose (handsets_of g) links.all)) e ∙ among_found stop_key s (stops_of purpose (handsets_of g) links.all) rises n in
        cc

    -- the queue of a stop is there
    there : (purpose : Concern) (number : List ℕ) (o : Option PlacedQueue) (x : ConcernedHandset) → stop_at purpose (or_new number o) ≡ Some x → stop_if purpose o ≡ Some x
    there purpose number None x e =
        let s = stop_seen purpose (new_placed number) x e in
        let bad : None ≡ Some x.order = sym (no_order purpose number) ∙ s.order in absurd cc
    there purpose number (Some q) x e = e

-- where nothing was found, nothing is left
pub nothing_left : (purpose : Concern) (p : DeliveryQueuesDraftOf) (key : ℕ) (touched base : Option PlacedQueue) → Indexed p.base → scanned purpose p ≡ [] → under key p.touched ≡ touched → under key p.base.queues ≡ base
    → stop_if purpose (option_or touched base) ≡ None
nothing_left purpose p key (Some q) base indexed none there below =
    let is : at key p ≡ Some q = ap (λ (o : Option PlacedQueue). option_or o (under key p.base.queues)) there in
    ap (λ (o : Option PlacedQueue). stop_if purpose o) (sym is) ∙ empty_there purpose p key q p.touched [] (early (rests_for purpose p.base.rested) none) there
  where
    early : (b : Bool) → (if b then all_noted purpose p p.touched [] else all_noted purpose p p.base.index (all_noted purpose p p.touched [])) ≡ [] → all_noted purpose p p.touched [] ≡ []
    early true e = e
    early false e = empty_before purpose p p.base.index (all_noted purpose p p.touched []) e
nothing_left purpose p key None None indexed none there below = refl
nothing_left purpose p key None (Some q) indexed none there below = by (stop_at purpose q) refl where
  is : at key p ≡ Some q
  is = ap (λ (o : Option PlacedQueue). option_or o (under key p.base.queues)) there ∙ below

  some_there : (o : Option (Unit {0})) → lookup (nat_eq key) p.base.index ≡ o → is_some o ≡ true → (v : Unit {0}) × (lookup (nat_eq key) p.base.index ≡ Some v)
  some_there None i t = absurd cc
  some_there (Some v) i t = (v, i)

  resting : (purpose : Concern) (m : Option ℕ) (x : ConcernedHandset) → p.base.rested ≡ m → rests_for purpose m ≡ true → stop_at purpose q ≡ Some x → ⊥
  resting (Offer now) None x i t s = absurd cc
  resting (Offer now) (Some moment) x i t s =
      let later = leb-true now moment t in
      let bad : None ≡ Some x = sym (indexed.rested moment key q i below) ∙ offer_later now moment q x later s in absurd cc
  resting (Fire now) m x i t s = absurd cc
  resting (FireUnmentioned now) m x i t s = absurd cc
  resting Awaited m x i t s = absurd cc

  by : (o : Option ConcernedHandset) → stop_at purpose q ≡ o → o ≡ None
  by None e = refl
  by (Some x) e = ⊎_elim
      (λ (t : rests_for purpose p.base.rested ≡ true). absurd (resting purpose p.base.rested x refl t e))
      (λ (t : rests_for purpose p.base.rested ≡ false).
      let s = stop_seen purpose q x e in
      let listed : is_listed key p.base.index ≡ true = indexed.active key q below (wanted_active purpose q.queue.row q.queue.link q.queue.waiting s.is) in
      let v = some_there (lookup (nat_eq key) p.base.index) refl listed in
      let all : all_noted purpose p p.base.index (all_noted purpose p p.touched []) ≡ [] =
      sym (cond-false (rests_for purpose p.base.rested) (all_noted purpose p p.touched []) (all_noted purpose p p.base.index (all_noted purpose p p.touched [])) t) ∙ none in
      sym e ∙ ap (λ (o : Option PlacedQueue). stop_if purpose o) (sym is) ∙ empty_there purpose p key v.0 p.base.index (all_noted purpose p p.touched []) all v.1)
      (cases_Bool (rests_for purpose p.base.rested))
