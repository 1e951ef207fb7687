-- The queues of all handsets between two events, and in the middle of one. Each is under the key of its handset's digits, with
-- its place in the order in which links were first used.
use Rattle.std.specs.Prelude.{◌≡◌, ◌≤◌, ℕ, ◌+◌, ◌^◌, ◌==◌, nat_eq, Bool, if◌then◌else◌, List, [], ◌∷◌, ◌++◌, Option, Some, None, is_some}
use Rattle.std.specs.Option.{option_or}
use Rattle.std.specs.Map.{lookup}
use Rattle.sms_rows.specs.table.Keys.{digits_key}
use Rattle.sms_rows.specs.declared.table.change.Change.{Change}
use Rattle.sms_rows.specs.declared.table.change.Change.TheVariants.{Put}
use Rattle.sms_centre_rows.specs.declared.waiting.handset.HandsetRow.{HandsetRow}
use Rattle.sms_centre_rows.specs.declared.waiting.handset_link.HandsetLink.{HandsetLink}
use Rattle.sms_centre_rows.specs.declared.waiting.handset_link.Sent.{Sent}
use Rattle.sms_centre_rows.specs.declared.waiting.reference.ReferenceRow.{ReferenceRow}
use Rattle.sms_centre_rows.specs.waiting.Links.{new_link_to}
use Rattle.sms_centre_queue.specs.queue.FreeReferences.{free_references}
use Rattle.sms_centre_rows.specs.waiting.References.{given_row, mentioned, next_reference, or_new_handset}
use Rattle.sms_centre_rows.specs.waiting.DeliveryQueues.{DeliveryQueueOf}
use Rattle.sms_centre_queue.specs.declared.queues.placed_queue.PlacedQueue.{PlacedQueue}

-- ---- one queue

-- nothing was heard of the handset, and nothing waits for it
abbrev pub new_placed : List ℕ → PlacedQueue
new_placed number = record { queue = record { row = None; given = []; waiting = []; link = new_link_to number }; link_place = 0 }

abbrev pub or_new : List ℕ → Option PlacedQueue → PlacedQueue
or_new number None = new_placed number
or_new number (Some placed) = placed

-- the same place, another queue
abbrev pub with_queue : DeliveryQueueOf → PlacedQueue → PlacedQueue
with_queue queue placed = record { queue = queue; link_place = placed.link_place }

-- ---- under keys

abbrev pub under : ℕ → List (ℕ × PlacedQueue) → Option PlacedQueue
under key entries = lookup (nat_eq key) entries

-- the key is in the index
abbrev pub is_listed : ℕ → List (ℕ × Unit {0}) → Bool
is_listed key entries = is_some (lookup (nat_eq key) entries)

-- ---- between two events

-- the queues as they were put in last, which events share
pub record SharedQueuesOf : Type 0 where
  pub queues : List (ℕ × PlacedQueue)
  -- how many queues its memory holds
  pub capacity : ℕ
  -- the keys of all queues that an event which is not their own can concern
  pub index : List (ℕ × Unit {0})
  pub index_capacity : ℕ
  -- nothing was left to offer at that moment
  pub rested : Option ℕ

pub record DeliveryQueuesOf : Type 0 where
  pub ground : SharedQueuesOf
  -- those that changed since, where the ground was shared and they could not be put in: none, as a rule
  pub touched : List (ℕ × PlacedQueue)
  -- the place of the next handset that is mentioned first
  pub next_place : ℕ
  -- how many links were used
  pub link_count : ℕ

-- ---- in the middle of an event

pub record DeliveryQueuesDraftOf : Type 0 where
  -- the queues as they were put in last
  pub base : SharedQueuesOf
  -- those that changed since, as they are
  pub touched : List (ℕ × PlacedQueue)
  -- the changes of the rows of handsets and references, and the frames that were sent, the oldest first
  pub handsets : List (Change HandsetRow)
  pub references : List (Change ReferenceRow)
  pub frames : List Sent
  pub next_place : ℕ
  pub link_count : ℕ

-- an event begins
abbrev pub pending_of : DeliveryQueuesOf → DeliveryQueuesDraftOf
pending_of s = record {
  base = s.ground;
  touched = s.touched;
  handsets = [];
  references = [];
  frames = [];
  next_place = s.next_place;
  link_count = s.link_count;
}

-- it begins with these, the queues beside the ground in memory of its own
pub record Continues (s : DeliveryQueuesOf) (p : DeliveryQueuesDraftOf) : Type 0 where
  pub alike : (key : ℕ) → under key p.touched ≡ under key s.touched
  pub rest : p ≡ record (pending_of s) { touched = p.touched }

-- the queue under a key as it is, if there is one
abbrev pub at : ℕ → DeliveryQueuesDraftOf → Option PlacedQueue
at key p = option_or (under key p.touched) (under key p.base.queues)

-- the queue of a handset
abbrev pub placed_of : List ℕ → DeliveryQueuesDraftOf → PlacedQueue
placed_of number p = or_new number (at (digits_key number) p)

-- ---- changed

-- the queue under that key is that one now, and all else is as it was
pub record Becomes (key : ℕ) (placed : PlacedQueue) (old new : DeliveryQueuesDraftOf) : Type 0 where
  pub own : under key new.touched ≡ Some placed
  pub others : (k : ℕ) → ¬ (k ≡ key) → under k new.touched ≡ under k old.touched
  pub rest : new ≡ record old { touched = new.touched }

-- the queue of the handset was taken out, and all else is as it was
pub record IsTaken (number : List ℕ) (placed : PlacedQueue) (old new : DeliveryQueuesDraftOf) : Type 0 where
  pub is : placed ≡ placed_of number old
  pub others : (k : ℕ) → ¬ (k ≡ digits_key number) → under k new.touched ≡ under k old.touched
  pub rest : new ≡ record old { touched = new.touched }

-- where its link is first used now, its place is behind all others
abbrev pub link_place_now : ℕ → ℕ → ℕ
link_place_now link_place link_count = if link_place == 0 then link_count + 1 else link_place

abbrev pub link_count_now : ℕ → ℕ → ℕ
link_count_now link_place link_count = if link_place == 0 then link_count + 1 else link_count

abbrev pub counted : ℕ → List Sent → DeliveryQueuesDraftOf → DeliveryQueuesDraftOf
counted link_count frames p = record p { link_count = link_count; frames = frames }

abbrev pub on_link : HandsetLink → ℕ → PlacedQueue → PlacedQueue
on_link link link_place placed = record { queue = record placed.queue { link = link }; link_place = link_place }

-- ---- giving a reference

-- no place is left for a handset that was given no reference yet: places are numbers of 32 bits
abbrev pub HasNoPlace : ℕ → Option HandsetRow → Type 0
HasNoPlace next_place row = (row ≡ None) × (2 ^ 32 ≤ next_place)

-- a handset that was given none takes the next place
abbrev pub places_now : Option HandsetRow → ℕ → ℕ
places_now None next_place = next_place + 1
places_now (Some h) next_place = next_place

abbrev pub given_to : HandsetRow → Option HandsetRow → ℕ → ℕ → DeliveryQueuesDraftOf → DeliveryQueuesDraftOf
given_to row was reference moment p = record p {
  handsets = p.handsets ++ Put (mentioned row reference) ∷ [];
  references = p.references ++ Put (given_row row reference moment) ∷ [];
  next_place = places_now was p.next_place;
}

-- the next reference at that queue
abbrev pub reference_of : PlacedQueue → ℕ → ℕ → Option ℕ
reference_of placed next_place now =
    next_reference (or_new_handset placed.queue.link.handset next_place placed.queue.row) placed.queue.waiting placed.queue.given now

-- how many references are free there
abbrev pub free_at : PlacedQueue → ℕ → ℕ → ℕ
free_at placed next_place now =
    free_references (or_new_handset placed.queue.link.handset next_place placed.queue.row) placed.queue.waiting placed.queue.given now
