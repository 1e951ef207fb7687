-- Queues that were made of rows show these rows.
use Rattle.std.proofs.Common.{◌≡◌, ◌⊎◌, ℕ, ◌+◌, List, [], ◌∷◌, true, false, nat_eq, Option, Some, None, refl, sym, ◌∙◌, ap, subst, inl, inr, ⊎_elim, eqb-true, eq-eqb, arith}
use Rattle.std.specs.Prelude.{if◌then◌else◌}
use Rattle.std.proofs.lemmas.Bool.{cases_Bool, cond-true, cond-false}
use Rattle.sms_base.specs.Among.{Among}
use Rattle.sms_base.specs.Msisdn.{IsMsisdn}
use Rattle.sms_rows.specs.table.Keys.{digits_key, pair_key}
use Rattle.sms_rows.specs.table.Table.{row_at}
use Rattle.sms_base.proofs.KeysOfDigits.{digits_equal}
use Rattle.sms_rows.proofs.table.Tables.{among_found}
use Rattle.sms_centre_rows.specs.declared.waiting.handset.HandsetRow.{HandsetRow}
use Rattle.sms_centre_rows.specs.declared.waiting.reference.ReferenceRow.{ReferenceRow}
use Rattle.sms_centre_rows.specs.waiting.Keys.{handset_key, reference_key}
use Rattle.sms_centre_rows.specs.waiting.References.{handset_at, place_after}
use Rattle.sms_centre_rows.specs.waiting.SoundAllocations.{SoundAllocations}
use Rattle.sms_centre_rows.proofs.waiting.Mentions.{number_found, number_none}
use Rattle.sms_centre_queue.specs.declared.queues.placed_queue.PlacedQueue.{PlacedQueue}
use Rattle.sms_centre_queue.specs.queues.Queues.{SharedQueuesOf, DeliveryQueuesOf, or_new, under}
use Rattle.sms_centre_queue.specs.queues.Recovering.{restored, restored_all}
use Rattle.sms_centre_queue.specs.queues.Representing.{IsNamed, RepresentsPlaced, Represents}
use Rattle.sms_centre_queue.specs.queues.Stops.{is_active}
use Rattle.sms_centre_queue.proofs.queues.Between.{found_between}
use Rattle.sms_centre_queue.proofs.queues.Allocation.{number_digits}

-- ---- where it comes from

-- it stood there, or it is the queue of one of the rows
from_row : (key : ℕ) (hs : List HandsetRow) (rs : List ReferenceRow) (o : Option PlacedQueue) (placed : PlacedQueue) → restored_all key hs rs o ≡ Some placed
    → (o ≡ Some placed) ⊎ ((h : HandsetRow) × (Among h hs × (key ≡ digits_key h.number) × (placed ≡ restored h rs)))
from_row key [] rs o placed e = inl e
from_row key (h ∷ hs) rs o placed e = ⊎_elim
    (λ (t : nat_eq key (digits_key h.number) ≡ true).
    let was = from_row key hs rs (Some (restored h rs)) placed (sym (ap (λ (x : Option PlacedQueue). restored_all key hs rs x) (cond-true (nat_eq key (digits_key h.number)) (Some (restored h rs)) o t)) ∙ e) in ⊎_elim
    (λ (s : Some (restored h rs) ≡ Some placed).
    let same : placed ≡ restored h rs = cc in
    let there : (x : HandsetRow) × (Among x (h ∷ hs) × (key ≡ digits_key x.number) × (placed ≡ restored x rs)) = (h, (inl refl, eqb-true key (digits_key h.number) t, same)) in
    inr there)
    (λ (s : (x : HandsetRow) × (Among x hs × (key ≡ digits_key x.number) × (placed ≡ restored x rs))).
    let there : (x : HandsetRow) × (Among x (h ∷ hs) × (key ≡ digits_key x.number) × (placed ≡ restored x rs)) = (s.0, (inr s.1.0, s.1.1, s.1.2)) in
    inr there)
    was)
    (λ (t : nat_eq key (digits_key h.number) ≡ false). ⊎_elim
    (λ (s : o ≡ Some placed). inl s)
    (λ (s : (x : HandsetRow) × (Among x hs × (key ≡ digits_key x.number) × (placed ≡ restored x rs))).
    let there : (x : HandsetRow) × (Among x (h ∷ hs) × (key ≡ digits_key x.number) × (placed ≡ restored x rs)) = (s.0, (inr s.1.0, s.1.1, s.1.2)) in
    inr there)
    (from_row key hs rs o placed (sym (ap (λ (x : Option PlacedQueue). restored_all key hs rs x) (cond-false (nat_eq key (digits_key h.number)) (Some (restored h rs)) o t)) ∙ e)))
    (cases_Bool (nat_eq key (digits_key h.number)))

-- something stands there
stays_some : (key : ℕ) (hs : List HandsetRow) (rs : List ReferenceRow) (placed : PlacedQueue) → (q : PlacedQueue) × (restored_all key hs rs (Some placed) ≡ Some q)
stays_some key [] rs placed = (placed, refl)
stays_some key (h ∷ hs) rs placed = ⊎_elim
    (λ (t : nat_eq key (digits_key h.number) ≡ true).
    let r = stays_some key hs rs (restored h rs) in
    (r.0, ap (λ (x : Option PlacedQueue). restored_all key hs rs x) (cond-true (nat_eq key (digits_key h.number)) (Some (restored h rs)) (Some placed) t) ∙ r.1))
    (λ (t : nat_eq key (digits_key h.number) ≡ false).
    let r = stays_some key hs rs placed in
    (r.0, ap (λ (x : Option PlacedQueue). restored_all key hs rs x) (cond-false (nat_eq key (digits_key h.number)) (Some (restored h rs)) (Some placed) t) ∙ r.1))
    (cases_Bool (nat_eq key (digits_key h.number)))

some_row : (key : ℕ) (g : HandsetRow) (hs : List HandsetRow) (rs : List ReferenceRow) (o : Option PlacedQueue) → Among g hs → key ≡ digits_key g.number → (q : PlacedQueue) × (restored_all key hs rs o ≡ Some q)
some_row key g [] rs o m e = elim m [ ]
some_row key g (h ∷ hs) rs o m e = ⊎_elim
    (λ (s : g ≡ h).
    let t : nat_eq key (digits_key h.number) ≡ true = eq-eqb key (digits_key h.number) (e ∙ ap (λ (x : HandsetRow). digits_key x.number) s) in
    let r = stays_some key hs rs (restored h rs) in
    (r.0, ap (λ (x : Option PlacedQueue). restored_all key hs rs x) (cond-true (nat_eq key (digits_key h.number)) (Some (restored h rs)) o t) ∙ r.1))
    (λ (s : Among g hs). some_row key g hs rs (if nat_eq key (digits_key h.number) then Some (restored h rs) else o) s e)
    m

-- ---- what it shows

one_row : (hs : List HandsetRow) (rs : List ReferenceRow) (f g : HandsetRow) → SoundAllocations hs rs → Among f hs → Among g hs → f.number ≡ g.number → f ≡ g
one_row hs rs f g sound m n e =
    let place : f.place ≡ g.place = sound.apart f g m n e in
    let same : Some f ≡ Some g = sym (among_found handset_key f hs sound.handset_keys m) ∙ ap (λ (k : ℕ). row_at handset_key k hs) place ∙ among_found handset_key g hs sound.handset_keys n in
    cc

-- what stands under the key of a handset
pub restored_at : (number : List ℕ) (hs : List HandsetRow) (rs : List ReferenceRow) (row : Option HandsetRow) (o : Option PlacedQueue) → SoundAllocations hs rs → IsMsisdn number → handset_at number hs ≡ row
    → restored_all (digits_key number) hs rs None ≡ o → RepresentsPlaced number hs rs [] [] (or_new number o)
restored_at number hs rs None None sound digits at is = record { queue = record { row = sym at; given = refl; all_queued = refl; link = refl }; link_place = refl }
restored_at number hs rs None (Some q) sound digits at is = ⊎_elim
    (λ (s : None ≡ Some q). absurd cc)
    (λ (s : (h : HandsetRow) × (Among h hs × (digits_key number ≡ digits_key h.number) × (q ≡ restored h rs))).
    let same = digits_equal number s.0.number digits.each (number_digits s.0.number (sound.mentioned s.0 s.1.0).number).each s.1.1 in
    absurd (number_none number s.0 hs at s.1.0 (sym same)))
    (from_row (digits_key number) hs rs None q is)
restored_at number hs rs (Some h) None sound digits at is =
    let there = number_found number h hs at in
    let some = some_row (digits_key number) h hs rs None there.0 (ap digits_key (sym there.1)) in
    let bad : None ≡ Some some.0 = sym is ∙ some.1 in absurd cc
restored_at number hs rs (Some h) (Some q) sound digits at is = ⊎_elim
    (λ (s : None ≡ Some q). absurd cc)
    (λ (s : (x : HandsetRow) × (Among x hs × (digits_key number ≡ digits_key x.number) × (q ≡ restored x rs))).
    let there = number_found number h hs at in
    let same = digits_equal number s.0.number digits.each (number_digits s.0.number (sound.mentioned s.0 s.1.0).number).each s.1.1 in
    let row : s.0 ≡ h = one_row hs rs s.0 h sound s.1.0 there.0 (sym same ∙ sym there.1) in
    let q_is : q ≡ restored h rs = s.1.2 ∙ ap (λ (x : HandsetRow). restored x rs) row in
    subst (λ (x : PlacedQueue). RepresentsPlaced number hs rs [] [] x) (sym q_is)
    (subst (λ (n : List ℕ). RepresentsPlaced n hs rs [] [] (restored h rs)) there.1
    (record {
      queue = record {
        row = sym (subst (λ (n : List ℕ). handset_at n hs ≡ Some h) (sym there.1) at);
        given = λ r small. found_between reference_key (pair_key h.place 0) (pair_key (h.place + 1) 0) (pair_key h.place r) rs (omega arith) (omega (arith, small)) sound.reference_keys;
        all_queued = refl;
        link = refl;
      };
      link_place = refl;
    })))
    (from_row (digits_key number) hs rs None q is)

ground_represents : (hs : List HandsetRow) (rs : List ReferenceRow) (g : SharedQueuesOf) (place link_count : ℕ) → SoundAllocations hs rs → ((key : ℕ) → under key g.queues ≡ restored_all key hs rs None) → place ≡ place_after 1 hs
    → link_count ≡ 0 → g.rested ≡ None → Represents hs rs [] (λ n. []) (record { ground = g; touched = []; next_place = place; link_count = link_count })
ground_represents hs rs g n k sound all place link_count rested = record {
  sound = sound;
  each = λ number d. restored_at number hs rs (handset_at number hs) (under (digits_key number) g.queues) sound d refl (sym (all (digits_key number)));
  named = λ key placed found. ⊎_elim
      (λ (n : None ≡ Some placed). absurd cc)
      (λ (h : (x : HandsetRow) × (Among x hs × (key ≡ digits_key x.number) × (placed ≡ restored x rs))).
      subst (λ (q : PlacedQueue). IsNamed key q) (sym h.1.2) (record { digits = number_digits h.0.number (sound.mentioned h.0 h.1.0).number; key_is = sym h.1.1 }))
      (from_row key hs rs None placed (sym (all key) ∙ found));
  next_place = place;
  handsets = refl;
  references = refl;
  frames = refl;
  link_count = link_count;
  digits = λ l m. elim m [ ];
  apart = tt;
  indexed = record {
    active = λ key placed found active. ⊎_elim
        (λ (n : None ≡ Some placed). absurd cc)
        (λ (h : (x : HandsetRow) × (Among x hs × (key ≡ digits_key x.number) × (placed ≡ restored x rs))).
        let bad : false ≡ true = ap (λ (q : PlacedQueue). is_active q.queue.link) (sym h.1.2) ∙ active in absurd cc)
        (from_row key hs rs None placed (sym (all key) ∙ found));
    rested = λ moment key placed is found. let bad : None ≡ Some moment = sym rested ∙ is in absurd cc;
  };
}

pub restored_represents : (hs : List HandsetRow) (rs : List ReferenceRow) (s : DeliveryQueuesOf) → SoundAllocations hs rs → ((key : ℕ) → under key s.ground.queues ≡ restored_all key hs rs None) → s.touched ≡ [] → s.next_place ≡ place_after 1 hs
    → s.link_count ≡ 0 → s.ground.rested ≡ None → Represents hs rs [] (λ n. []) s
restored_represents hs rs s sound all none place link_count rested =
    subst (λ (es : List (ℕ × PlacedQueue)). Represents hs rs [] (λ n. []) (record { ground = s.ground; touched = es; next_place = s.next_place; link_count = s.link_count })) (sym none)
    (ground_represents hs rs s.ground s.next_place s.link_count sound all place link_count rested)
