-- Queues of a centre that starts again: what waits and what was given stays there, and no handset has a link any more.
use Rattle.std.specs.Prelude.{ℕ, nat_eq, List, [], ◌∷◌, if◌then◌else◌, Option, Some}
use Rattle.sms_centre_rows.specs.waiting.Links.{new_link_to}
use Rattle.sms_centre_queue.specs.declared.queues.placed_queue.PlacedQueue.{PlacedQueue}

abbrev pub unlinked : PlacedQueue → PlacedQueue
unlinked placed = record { queue = record placed.queue { link = new_link_to placed.queue.link.handset }; link_place = 0 }

-- the queue under a key, once those of these keys were put there without their links, one after the other
abbrev pub unlinked_all : ℕ → List (ℕ × PlacedQueue) → Option PlacedQueue → Option PlacedQueue
unlinked_all key [] placed = placed
unlinked_all key (e ∷ es) placed = unlinked_all key es (if nat_eq key e.0 then Some (unlinked e.1) else placed)
