-- One queue is touched: what is shown then.
use Rattle.std.proofs.Common.{◌≡◌, ℕ, List, length, Option, Some, sym, ◌∙◌, ap, subst, ⊎_elim}
use Rattle.std.specs.Option.{option_or}
use Rattle.std.proofs.lemmas.Bool.{cases_eq}
use Rattle.sms_base.proofs.OctetLaws.{cases_octets}
use Rattle.sms_base.specs.Among.{Among}
use Rattle.sms_base.specs.Msisdn.{IsMsisdn}
use Rattle.sms_rows.specs.table.Keys.{digits_key}
use Rattle.sms_rows.specs.table.Since.{oldest_first}
use Rattle.sms_base.proofs.KeysOfDigits.{digits_equal}
use Rattle.sms_centre_rows.specs.declared.waiting.handset_link.HandsetLink.{HandsetLink}
use Rattle.sms_centre_rows.specs.declared.waiting.queued_part.QueuedPart.{QueuedPart}
use Rattle.sms_centre_rows.specs.waiting.Links.{Links}
use Rattle.sms_centre_rows.specs.waiting.References.{Allocations, handsets_of, place_after, references_of}
use Rattle.sms_centre_rows.specs.waiting.SoundAllocations.{SoundAllocations}
use Rattle.sms_centre_queue.specs.declared.queues.placed_queue.PlacedQueue.{PlacedQueue}
use Rattle.sms_centre_queue.specs.queues.LinkOrder.{AreLinks}
use Rattle.sms_centre_queue.specs.queues.Queues.{Becomes, DeliveryQueuesDraftOf, at, or_new, placed_of, under}
use Rattle.sms_centre_queue.specs.queues.Representing.{Indexed, IsNamed, DraftRepresents, RepresentsPlaced}

pub at_own : (key : ℕ) (placed : PlacedQueue) (old new : DeliveryQueuesDraftOf) → Becomes key placed old new → at key new ≡ Some placed
at_own key placed old new b = ap (λ (o : Option PlacedQueue). option_or o (under key new.base.queues)) b.own

pub at_other : (key k : ℕ) (placed : PlacedQueue) (old new : DeliveryQueuesDraftOf) → Becomes key placed old new → ¬ (k ≡ key) → at k new ≡ at k old
at_other key k placed old new b ne =
    ap (λ (o : Option PlacedQueue). option_or o (under k new.base.queues)) (b.others k ne)
    ∙ ap (λ (x : DeliveryQueuesDraftOf). option_or (under k old.touched) (under k x.base.queues)) b.rest

-- what stays as it was, or is said of all
pub record Also (base : DeliveryQueuesDraftOf) (g : Allocations) (links : Links) : Type 0 where
  pub sound : SoundAllocations (handsets_of g) (references_of g)
  pub next_place : base.next_place ≡ place_after 1 (handsets_of g)
  pub handsets : base.handsets ≡ oldest_first g.handsets.news
  pub references : base.references ≡ oldest_first g.references.news
  pub frames : base.frames ≡ links.frames
  pub link_count : base.link_count ≡ length links.all
  pub digits : (l : HandsetLink) → Among l links.all → IsMsisdn l.handset
  pub apart : AreLinks links.all

pub also_represented : (g : Allocations) (links : Links) (w : List ℕ → List QueuedPart) (p : DeliveryQueuesDraftOf) → DraftRepresents g links w p → Also p g links
also_represented g links w p s = record {
  sound = s.sound;
  next_place = s.next_place;
  handsets = s.handsets;
  references = s.references;
  frames = s.frames;
  link_count = s.link_count;
  digits = s.digits;
  apart = s.apart;
}

pub represents_next : (number : List ℕ) (placed : PlacedQueue) (p base new : DeliveryQueuesDraftOf) (g g2 : Allocations) (links air2 : Links) (w w2 : List ℕ → List QueuedPart)
    → IsMsisdn number → Becomes (digits_key number) placed base new → ((k : ℕ) → at k base ≡ at k p) → base.base ≡ p.base → DraftRepresents g links w p → Also base g2 air2
    → placed.queue.link.handset ≡ number
    → RepresentsPlaced number (handsets_of g2) (references_of g2) (w2 number) air2.all placed
    → ((other : List ℕ) (q : PlacedQueue) → ¬ (number ≡ other) → RepresentsPlaced other (handsets_of g) (references_of g) (w other) links.all q
    → RepresentsPlaced other (handsets_of g2) (references_of g2) (w2 other) air2.all q)
    → DraftRepresents g2 air2 w2 new
represents_next number placed p base new g g2 links air2 w w2 digits becomes same stands represents also handset own others = record {
  sound = also.sound;
  each = λ other d. ⊎_elim
      (λ (e : number ≡ other).
      let here : placed_of number new ≡ placed = ap (λ (o : Option PlacedQueue). or_new number o) (at_own (digits_key number) placed base new becomes) in
      subst (λ (n : List ℕ). RepresentsPlaced n (handsets_of g2) (references_of g2) (w2 n) air2.all (placed_of n new)) e
      (subst (λ (q : PlacedQueue). RepresentsPlaced number (handsets_of g2) (references_of g2) (w2 number) air2.all q) (sym here) own))
      (λ (ne : number ≡ other → ⊥).
      let apart : ¬ (digits_key other ≡ digits_key number) = λ k. ne (sym (digits_equal other number d.each digits.each k)) in
      let there : placed_of other new ≡ placed_of other p =
      ap (λ (o : Option PlacedQueue). or_new other o) (at_other (digits_key number) (digits_key other) placed base new becomes apart ∙ same (digits_key other)) in
      subst (λ (q : PlacedQueue). RepresentsPlaced other (handsets_of g2) (references_of g2) (w2 other) air2.all q) (sym there)
      (others other (placed_of other p) ne (represents.each other d)))
      (cases_octets number other);
  named = λ key q found. ⊎_elim
      (λ (e : key ≡ digits_key number).
      let is : Some placed ≡ Some q = sym (at_own (digits_key number) placed base new becomes) ∙ ap (λ (k : ℕ). at k new) (sym e) ∙ found in
      let same_one : placed ≡ q = cc in
      subst (λ (x : PlacedQueue). IsNamed key x) same_one
      (record { digits = subst IsMsisdn (sym handset) digits; key_is = ap digits_key handset ∙ sym e }))
      (λ (ne : key ≡ digits_key number → ⊥). represents.named key q (sym (same key) ∙ sym (at_other (digits_key number) key placed base new becomes ne) ∙ found))
      (cases_eq key (digits_key number));
  next_place = ap (λ (x : DeliveryQueuesDraftOf). x.next_place) becomes.rest ∙ also.next_place;
  handsets = ap (λ (x : DeliveryQueuesDraftOf). x.handsets) becomes.rest ∙ also.handsets;
  references = ap (λ (x : DeliveryQueuesDraftOf). x.references) becomes.rest ∙ also.references;
  frames = ap (λ (x : DeliveryQueuesDraftOf). x.frames) becomes.rest ∙ also.frames;
  link_count = ap (λ (x : DeliveryQueuesDraftOf). x.link_count) becomes.rest ∙ also.link_count;
  digits = also.digits;
  apart = also.apart;
  indexed = subst Indexed (sym (ap (λ (x : DeliveryQueuesDraftOf). x.base) becomes.rest ∙ stands)) represents.indexed;
}
