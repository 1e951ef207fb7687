-- Queues that represent what a centre's definition speaks of. That is the rows of handsets and of references with their changes.
-- It is the links in the order in which they were first used with the frames that were sent. It is what waits for each handset,
-- too.
use Rattle.std.specs.Prelude.{◌≡◌, ℕ, List, [], length, true, None, Some}
use Rattle.sms_base.specs.Among.{Among}
use Rattle.sms_base.specs.Msisdn.{IsMsisdn}
use Rattle.sms_rows.specs.table.Keys.{digits_key}
use Rattle.sms_rows.specs.table.Since.{oldest_first, untouched}
use Rattle.sms_centre_rows.specs.declared.waiting.handset.HandsetRow.{HandsetRow}
use Rattle.sms_centre_rows.specs.declared.waiting.handset_link.HandsetLink.{HandsetLink}
use Rattle.sms_centre_rows.specs.declared.waiting.queued_part.QueuedPart.{QueuedPart}
use Rattle.sms_centre_rows.specs.declared.waiting.reference.ReferenceRow.{ReferenceRow}
use Rattle.sms_centre_rows.specs.waiting.Links.{Links}
use Rattle.sms_centre_rows.specs.waiting.References.{Allocations, handsets_of, place_after, references_of}
use Rattle.sms_centre_rows.specs.waiting.DeliveryQueueRows.{Represents as RepresentsOne}
use Rattle.sms_centre_rows.specs.waiting.SoundAllocations.{SoundAllocations}
use Rattle.sms_centre_queue.specs.declared.queues.placed_queue.PlacedQueue.{PlacedQueue}
use Rattle.sms_centre_queue.specs.declared.queues.concern.Concern.TheVariants.{Offer}
use Rattle.sms_centre_queue.specs.queues.LinkOrder.{AreLinks, link_place_in}
use Rattle.sms_centre_queue.specs.queues.Queues.{SharedQueuesOf, DeliveryQueuesDraftOf, DeliveryQueuesOf, at, is_listed, pending_of, placed_of, under}
use Rattle.sms_centre_queue.specs.queues.Stops.{is_active, stop_at}

-- ---- one handset

pub record RepresentsPlaced (number : List ℕ) (handsets : List HandsetRow) (references : List ReferenceRow) (waiting : List QueuedPart)
    (links : List HandsetLink) (placed : PlacedQueue) : Type 0 where
  pub queue : RepresentsOne number handsets references waiting links placed.queue
  pub link_place : placed.link_place ≡ link_place_in number links

-- a queue is under the key of its handset
pub record IsNamed (key : ℕ) (placed : PlacedQueue) : Type 0 where
  pub digits : IsMsisdn placed.queue.link.handset
  pub key_is : digits_key placed.queue.link.handset ≡ key

-- ---- the index: what it leaves out concerns no event but its handset's own

pub record Indexed (s : SharedQueuesOf) : Type 0 where
  pub active : (key : ℕ) (placed : PlacedQueue) → under key s.queues ≡ Some placed → is_active placed.queue.link ≡ true → is_listed key s.index ≡ true
  pub rested : (moment key : ℕ) (placed : PlacedQueue) → s.rested ≡ Some moment → under key s.queues ≡ Some placed → stop_at (Offer moment) placed ≡ None

-- ---- all handsets, in the middle of an event

pub record DraftRepresents (g : Allocations) (links : Links) (waiting : List ℕ → List QueuedPart) (p : DeliveryQueuesDraftOf) : Type 0 where
  pub sound : SoundAllocations (handsets_of g) (references_of g)
  pub each : (number : List ℕ) → IsMsisdn number → RepresentsPlaced number (handsets_of g) (references_of g) (waiting number) links.all (placed_of number p)
  pub named : (key : ℕ) (placed : PlacedQueue) → at key p ≡ Some placed → IsNamed key placed
  pub next_place : p.next_place ≡ place_after 1 (handsets_of g)
  pub handsets : p.handsets ≡ oldest_first g.handsets.news
  pub references : p.references ≡ oldest_first g.references.news
  pub frames : p.frames ≡ links.frames
  pub link_count : p.link_count ≡ length links.all
  pub digits : (l : HandsetLink) → Among l links.all → IsMsisdn l.handset
  pub apart : AreLinks links.all
  pub indexed : Indexed p.base

-- what waits for one handset becomes that, and what waits for others stays
abbrev pub Waits : List ℕ → (List QueuedPart → List QueuedPart) → (List ℕ → List QueuedPart) → (List ℕ → List QueuedPart) → Type 0
Waits number becomes before after = (after number ≡ becomes (before number)) × ((other : List ℕ) → ¬ (number ≡ other) → after other ≡ before other)

-- ---- between two events

-- it is of these rows, with no changes, and these links, on which nothing was sent
abbrev pub Begins : List HandsetRow → List ReferenceRow → List HandsetLink → (List ℕ → List QueuedPart) → DeliveryQueuesDraftOf → Type 0
Begins handsets references links waiting p =
    DraftRepresents (record { handsets = untouched handsets; references = untouched references }) (record { all = links; frames = []; read = [] }) waiting p

-- so is an event that begins with the queues of these
abbrev pub Represents : List HandsetRow → List ReferenceRow → List HandsetLink → (List ℕ → List QueuedPart) → DeliveryQueuesOf → Type 0
Represents handsets references links waiting s = Begins handsets references links waiting (pending_of s)
