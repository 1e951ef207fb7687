-- What is shown after a reference was given.
use Rattle.std.proofs.Common.{◌≡◌, ℕ, ◌<◌, ◌++◌, ◌∷◌, [], List, Option, refl, sym, ◌∙◌, ap, subst}
use Rattle.sms_base.specs.Msisdn.{IsMsisdn}
use Rattle.sms_base.proofs.Msisdns.{is_number}
use Rattle.sms_rows.specs.table.Keys.{digits_key}
use Rattle.sms_rows.specs.table.Since.{oldest_first}
use Rattle.sms_rows.specs.table.Table.{put}
use Rattle.sms_rows.specs.declared.table.change.Change.{Change}
use Rattle.sms_rows.specs.declared.table.change.Change.TheVariants.{Put}
use Rattle.sms_centre_rows.specs.declared.waiting.handset.HandsetRow.{HandsetRow}
use Rattle.sms_centre_rows.specs.declared.waiting.queued_part.QueuedPart.{QueuedPart}
use Rattle.sms_centre_rows.specs.declared.waiting.reference.ReferenceRow.{ReferenceRow}
use Rattle.sms_centre_rows.specs.waiting.Links.{Links}
use Rattle.sms_centre_rows.specs.waiting.References.{Allocations, give, given_row, handset_at, handset_of, handsets_of, mentioned, or_new_handset, place_after, references_of}
use Rattle.sms_centre_rows.specs.waiting.Keys.{handset_key, reference_key}
use Rattle.sms_centre_rows.specs.waiting.DeliveryQueueRows.{Represents as RepresentsOne, row_for}
use Rattle.sms_centre_rows.specs.waiting.DeliveryQueues.{queue_given}
use Rattle.sms_centre_rows.specs.waiting.SoundAllocations.{IsNumber}
use Rattle.sms_centre_rows.proofs.waiting.AllocationsSound.{give_sound}
use Rattle.sms_centre_rows.proofs.waiting.Showing.{give_other, give_own}
use Rattle.sms_centre_queue.specs.declared.queues.placed_queue.PlacedQueue.{PlacedQueue}
use Rattle.sms_centre_queue.specs.queues.Queues.{Becomes, IsTaken, DeliveryQueuesDraftOf, given_to, places_now, with_queue}
use Rattle.sms_centre_queue.specs.queues.Representing.{DraftRepresents}
use Rattle.sms_centre_queue.proofs.queues.Becoming.{represents_next}
use Rattle.sms_centre_queue.proofs.queues.Moving.{taken_handset, taken_represented}
use Rattle.sms_centre_queue.proofs.queues.Places.{place_given}

-- the digits of a number
pub number_digits : (number : List ℕ) → IsNumber number → IsMsisdn number
number_digits number is = is_number number is

pub taken_given : (number : List ℕ) (q placed : PlacedQueue) (row : HandsetRow) (was : Option HandsetRow) (reference now : ℕ) (p mid new : DeliveryQueuesDraftOf) → IsTaken number q p mid
    → Becomes (digits_key number) placed (given_to row was reference now mid) new → Becomes (digits_key number) placed (given_to row was reference now p) new
taken_given number q placed row was reference now p mid new taken becomes = record {
  own = becomes.own;
  others = λ k ne. becomes.others k ne ∙ taken.others k ne;
  rest = becomes.rest ∙ ap (λ (x : DeliveryQueuesDraftOf). record (given_to row was reference now x) { touched = new.touched }) taken.rest;
}

pub given_next : (number : List ℕ) (row : HandsetRow) (reference now : ℕ) (q : PlacedQueue) (p mid new : DeliveryQueuesDraftOf) → IsNumber number → reference < 256 → IsTaken number q p mid
    → row ≡ or_new_handset q.queue.link.handset mid.next_place q.queue.row
    → Becomes (digits_key number) (with_queue (queue_given row reference now q.queue) q) (given_to row q.queue.row reference now mid) new
    → (g : Allocations) (links : Links) (w : List ℕ → List QueuedPart) → DraftRepresents g links w p → DraftRepresents (give (handset_of number (handsets_of g)) reference now g) links w new
given_next number row reference now q p mid new is small taken row_is becomes g links w represents =
    let digits : IsMsisdn number = number_digits number is in
    let hs : List HandsetRow = handsets_of g in
    let rs : List ReferenceRow = references_of g in
    let was = taken_represented number q p mid g links w digits taken represents in
    let handset : q.queue.link.handset ≡ number = taken_handset number q p mid g links w digits taken represents in
    let place : mid.next_place ≡ place_after 1 hs = ap (λ (x : DeliveryQueuesDraftOf). x.next_place) taken.rest ∙ represents.next_place in
    let own_row : row ≡ row_for number hs q.queue =
    row_is ∙ ap (λ (n : List ℕ). or_new_handset n mid.next_place q.queue.row) handset ∙ ap (λ (n : ℕ). or_new_handset number n q.queue.row) place in
    let h : HandsetRow = handset_of number hs in
    let is_h : row ≡ h = own_row ∙ ap (λ (o : Option HandsetRow). or_new_handset number (place_after 1 hs) o) was.queue.row in
    let placed : PlacedQueue = with_queue (queue_given row reference now q.queue) q in
    represents_next number placed p (given_to row q.queue.row reference now p) new g (give h reference now g) links links w w digits
    (taken_given number q placed row q.queue.row reference now p mid new taken becomes) (λ k. refl) refl represents
    (record {
      sound = give_sound number hs rs (handset_at number hs) reference now represents.sound is refl small;
      next_place = ap (λ (o : Option HandsetRow). places_now o p.next_place) was.queue.row ∙ ap (λ (n : ℕ). places_now (handset_at number hs) n) represents.next_place
          ∙ sym (place_given number hs (handset_at number hs) reference represents.sound.handset_keys refl);
      handsets = ap (λ (cs : List (Change HandsetRow)). cs ++ Put (mentioned row reference) ∷ []) represents.handsets
          ∙ ap (λ (x : HandsetRow). oldest_first g.handsets.news ++ Put (mentioned x reference) ∷ []) is_h;
      references = ap (λ (cs : List (Change ReferenceRow)). cs ++ Put (given_row row reference now) ∷ []) represents.references
          ∙ ap (λ (x : HandsetRow). oldest_first g.references.news ++ Put (given_row x reference now) ∷ []) is_h;
      frames = represents.frames;
      link_count = represents.link_count;
      digits = represents.digits;
      apart = represents.apart;
    })
    handset
    (record {
      queue = subst (λ (x : HandsetRow). RepresentsOne number (put handset_key (mentioned h reference) hs)
          (put reference_key (given_row h reference now) rs) (w number) links.all (queue_given x reference now q.queue))
          (sym own_row) (give_own number hs rs (w number) links.all q.queue reference now represents.sound small was.queue);
      link_place = was.link_place;
    })
    (λ other x ne s. record {
      queue = give_other number other hs rs (w other) links.all x.queue reference now represents.sound small ne s.queue;
      link_place = s.link_place;
    })
