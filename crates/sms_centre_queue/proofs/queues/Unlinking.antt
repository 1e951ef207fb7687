-- Queues without links show the same rows, the same that waits, and no links.
use Rattle.std.proofs.Common.{◌≡◌, ℕ, List, [], ◌∷◌, true, false, nat_eq, Option, Some, None, refl, sym, ◌∙◌, ap, subst, ⊎_elim, eqb-true}
use Rattle.std.specs.Prelude.{option_map}
use Rattle.std.specs.Option.{option_or}
use Rattle.std.specs.List.{AllByRecursion, IsDistinct}
use Rattle.std.specs.Map.{keys_of}
use Rattle.std.proofs.lemmas.Bool.{cases_Bool, cond-true, cond-false}
use Rattle.sms_rows.specs.table.Keys.{digits_key}
use Rattle.sms_centre_rows.specs.declared.waiting.handset.HandsetRow.{HandsetRow}
use Rattle.sms_centre_rows.specs.declared.waiting.handset_link.HandsetLink.{HandsetLink}
use Rattle.sms_centre_rows.specs.declared.waiting.queued_part.QueuedPart.{QueuedPart}
use Rattle.sms_centre_rows.specs.declared.waiting.reference.ReferenceRow.{ReferenceRow}
use Rattle.sms_centre_rows.specs.waiting.Links.{Links, new_link_to}
use Rattle.sms_centre_rows.specs.waiting.References.{Allocations, handsets_of, references_of}
use Rattle.sms_centre_queue.specs.declared.queues.placed_queue.PlacedQueue.{PlacedQueue}
use Rattle.sms_centre_queue.specs.queues.Queues.{DeliveryQueuesDraftOf, at, or_new, placed_of, under}
use Rattle.sms_centre_queue.specs.queues.Representing.{Indexed, IsNamed, DraftRepresents, RepresentsPlaced}
use Rattle.sms_centre_queue.specs.queues.Unlinked.{unlinked, unlinked_all}
use Rattle.sms_centre_rows.proofs.waiting.LinksRepresented.{link_of_handset}

-- ---- the queues of a map, one after the other

passed : (key : ℕ) (es : List (ℕ × PlacedQueue)) (o : Option PlacedQueue) → AllByRecursion (λ (y : ℕ). nat_eq key y ≡ false) (keys_of es) → unlinked_all key es o ≡ o
passed key [] o h = refl
passed key (e ∷ es) o h =
    ap (λ (x : Option PlacedQueue). unlinked_all key es x) (cond-false (nat_eq key e.0) (Some (unlinked e.1)) o h.0) ∙ passed key es o h.1

pub unlinked_once : (key : ℕ) (es : List (ℕ × PlacedQueue)) (o : Option PlacedQueue) → IsDistinct nat_eq (keys_of es) → unlinked_all key es o ≡ option_or (option_map unlinked (under key es)) o
unfolding IsDistinct
unlinked_once key [] o d = refl
unlinked_once key (e ∷ es) o d = ⊎_elim
    (λ (t : nat_eq key e.0 ≡ true).
    let same : e.0 ≡ key = sym (eqb-true key e.0 t) in
    ap (λ (x : Option PlacedQueue). unlinked_all key es x) (cond-true (nat_eq key e.0) (Some (unlinked e.1)) o t)
    ∙ passed key es (Some (unlinked e.1)) (subst (λ (k : ℕ). AllByRecursion (λ (y : ℕ). nat_eq k y ≡ false) (keys_of es)) same d.0)
    ∙ sym (ap (λ (x : Option PlacedQueue). option_or (option_map unlinked x) o) (cond-true (nat_eq key e.0) (Some e.1) (under key es) t)))
    (λ (t : nat_eq key e.0 ≡ false).
    ap (λ (x : Option PlacedQueue). unlinked_all key es x) (cond-false (nat_eq key e.0) (Some (unlinked e.1)) o t)
    ∙ unlinked_once key es o d.1
    ∙ sym (ap (λ (x : Option PlacedQueue). option_or (option_map unlinked x) o) (cond-false (nat_eq key e.0) (Some e.1) (under key es) t)))
    (cases_Bool (nat_eq key e.0))

-- ---- what is shown

all_beside : (t b : Option PlacedQueue) → option_or (option_map unlinked (option_or t b)) b ≡ option_map unlinked (option_or t b)
all_beside None None = refl
all_beside None (Some q) = refl
all_beside (Some q) b = refl

or_new_unlinked : (number : List ℕ) (o : Option PlacedQueue) → or_new number (option_map unlinked o) ≡ unlinked (or_new number o)
or_new_unlinked number None = refl
or_new_unlinked number (Some q) = refl

represents_unlinked : (number : List ℕ) (hs : List HandsetRow) (rs : List ReferenceRow) (w : List QueuedPart) (links : List HandsetLink) (q : PlacedQueue) → RepresentsPlaced number hs rs w links q → RepresentsPlaced number hs rs w [] (unlinked q)
represents_unlinked number hs rs w links q s = record {
  queue = record {
    row = s.queue.row;
    given = s.queue.given;
    all_queued = s.queue.all_queued;
    link = ap (λ (l : HandsetLink). new_link_to l.handset) s.queue.link ∙ ap new_link_to (link_of_handset number links);
  };
  link_place = refl;
}

named_unlinked : (key : ℕ) (o : Option PlacedQueue) (placed : PlacedQueue) → ((q : PlacedQueue) → o ≡ Some q → IsNamed key q) → option_map unlinked o ≡ Some placed → IsNamed key placed
named_unlinked key None placed named e = absurd cc
named_unlinked key (Some q) placed named e =
    let is : unlinked q ≡ placed = cc in
    let n = named q refl in
    subst (λ (x : PlacedQueue). IsNamed key x) is (record { digits = n.digits; key_is = n.key_is })

pub links_forgotten : (p new : DeliveryQueuesDraftOf) → ((key : ℕ) → under key new.touched ≡ option_map unlinked (at key p)) → new ≡ record p { touched = new.touched; link_count = 0 }
    → (g : Allocations) (links : Links) (w : List ℕ → List QueuedPart) → DraftRepresents g links w p → DraftRepresents g (record links { all = [] }) w new
links_forgotten p new all rest g links w represents =
    let base : new.base ≡ p.base = ap (λ (x : DeliveryQueuesDraftOf). x.base) rest in
    let at_new : (key : ℕ) → at key new ≡ option_map unlinked (at key p) =
    λ key. ap (λ (o : Option PlacedQueue). option_or o (under key new.base.queues)) (all key)
    ∙ ap (λ (x : DeliveryQueuesDraftOf). option_or (option_map unlinked (at key p)) (under key x.base.queues)) rest
    ∙ all_beside (under key p.touched) (under key p.base.queues) in
    record {
      sound = represents.sound;
      each = λ number d.
          subst (λ (q : PlacedQueue). RepresentsPlaced number (handsets_of g) (references_of g) (w number) [] q)
          (sym (ap (λ (o : Option PlacedQueue). or_new number o) (at_new (digits_key number)) ∙ or_new_unlinked number (at (digits_key number) p)))
          (represents_unlinked number (handsets_of g) (references_of g) (w number) links.all (placed_of number p) (represents.each number d));
      named = λ key placed found. named_unlinked key (at key p) placed (λ q e. represents.named key q e) (sym (at_new key) ∙ found);
      next_place = ap (λ (x : DeliveryQueuesDraftOf). x.next_place) rest ∙ represents.next_place;
      handsets = ap (λ (x : DeliveryQueuesDraftOf). x.handsets) rest ∙ represents.handsets;
      references = ap (λ (x : DeliveryQueuesDraftOf). x.references) rest ∙ represents.references;
      frames = ap (λ (x : DeliveryQueuesDraftOf). x.frames) rest ∙ represents.frames;
      link_count = ap (λ (x : DeliveryQueuesDraftOf). x.link_count) rest;
      digits = λ l m. elim m [ ];
      apart = tt;
      indexed = subst Indexed (sym base) represents.indexed;
    }
