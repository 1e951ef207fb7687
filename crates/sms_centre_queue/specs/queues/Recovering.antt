-- The queues of handsets that were given references, by their rows: nothing waits yet, and there are no links.
use Rattle.std.specs.Prelude.{◌≡◌, ℕ, ◌+◌, nat_eq, List, [], ◌∷◌, if◌then◌else◌, Option, Some, None}
use Rattle.sms_rows.specs.table.Keys.{digits_key, pair_key}
use Rattle.sms_rows.specs.table.Table.{rows_between}
use Rattle.sms_centre_rows.specs.declared.waiting.handset.HandsetRow.{HandsetRow}
use Rattle.sms_centre_rows.specs.declared.waiting.reference.ReferenceRow.{ReferenceRow}
use Rattle.sms_centre_rows.specs.waiting.Keys.{reference_key}
use Rattle.sms_centre_rows.specs.waiting.Links.{new_link_to}
use Rattle.sms_centre_queue.specs.declared.queues.placed_queue.PlacedQueue.{PlacedQueue}
use Rattle.sms_centre_queue.specs.queues.Queues.{DeliveryQueuesOf}

-- the references that were given there
abbrev pub given_at : HandsetRow → List ReferenceRow → List ReferenceRow
given_at h references = rows_between reference_key (pair_key h.place 0) (pair_key (h.place + 1) 0) references

abbrev pub restored : HandsetRow → List ReferenceRow → PlacedQueue
restored h references = record { queue = record { row = Some h; given = given_at h references; waiting = []; link = new_link_to h.number }; link_place = 0 }

-- the queue under a key, once those of the handsets were put there one after the other
abbrev pub restored_all : ℕ → List HandsetRow → List ReferenceRow → Option PlacedQueue → Option PlacedQueue
restored_all key [] references placed = placed
restored_all key (h ∷ hs) references placed = restored_all key hs references (if nat_eq key (digits_key h.number) then Some (restored h references) else placed)

-- these queues, which no event concerns that isn't their own, with that place for the next handset
pub record AreBare (entries : List (ℕ × PlacedQueue)) (place : ℕ) (s : DeliveryQueuesOf) : Type 0 where
  pub queues : s.ground.queues ≡ entries
  pub touched : s.touched ≡ []
  pub next_place : s.next_place ≡ place
  pub link_count : s.link_count ≡ 0
  pub rested : s.ground.rested ≡ None
