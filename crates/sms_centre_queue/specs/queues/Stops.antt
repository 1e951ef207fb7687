-- What an event that isn't a handset's own does with handsets, one after the other: it stops at those that it concerns. Those that
-- were given a reference are in the order of first mention, links in the order in which they were first used.
use Rattle.std.specs.Prelude.{ℕ, ◌+◌, ◌==◌, ◌&&◌, filter, List, [], ◌∷◌, Bool, false, true, if◌then◌else◌, Option, Some, None, is_none, is_some, nat_le}
use Rattle.sms_control.specs.DueTimers.{is_due, is_timed}
use Rattle.sms_rows.specs.table.Table.{put}
use Rattle.sms_centre_rows.specs.declared.waiting.handset.HandsetRow.{HandsetRow}
use Rattle.sms_centre_rows.specs.declared.waiting.handset_link.HandsetLink.{HandsetLink}
use Rattle.sms_centre_rows.specs.declared.waiting.queued_part.QueuedPart.{QueuedPart}
use Rattle.sms_centre_rows.specs.waiting.Links.{is_ready, link_of}
use Rattle.sms_centre_rows.specs.waiting.References.{handset_at}
use Rattle.sms_centre_rows.specs.waiting.Waiting.{next}
use Rattle.sms_centre_queue.specs.declared.queues.placed_queue.PlacedQueue.{PlacedQueue}
use Rattle.sms_centre_queue.specs.declared.queues.concern.ConcernedHandset.{ConcernedHandset}
use Rattle.sms_centre_queue.specs.declared.queues.concern.Concern.{Concern}
use Rattle.sms_centre_queue.specs.declared.queues.concern.Concern.TheVariants.{Offer, Fire, FireUnmentioned, Awaited}
use Rattle.sms_centre_queue.specs.queues.Keys.{stop_key}
use Rattle.sms_centre_queue.specs.queues.Queues.{DeliveryQueuesDraftOf, at}

-- ---- whether it concerns a handset, by its row, its link and what waits for it

-- the link is ready, and something is due
abbrev pub is_offered : ℕ → HandsetLink → List QueuedPart → Bool
is_offered now link waiting = is_ready link && is_some (next now waiting)

abbrev pub is_wanted : Concern → Option HandsetRow → HandsetLink → List QueuedPart → Bool
is_wanted (Offer now) row link waiting = is_offered now link waiting
is_wanted (Fire now) row link waiting = is_due now link.near_end.links
is_wanted (FireUnmentioned now) row link waiting = is_none row && is_due now link.near_end.links
is_wanted Awaited row link waiting = link.is_awaited

-- ---- all handsets, in their order

abbrev pub mention_stops : List HandsetRow → List ConcernedHandset
mention_stops [] = []
mention_stops (h ∷ hs) = record { order = h.place; number = h.number } ∷ mention_stops hs

-- where the first link has that place
abbrev pub link_stops : ℕ → List HandsetLink → List ConcernedHandset
link_stops place [] = []
link_stops place (l ∷ ls) = record { order = place; number = l.handset } ∷ link_stops (place + 1) ls

abbrev pub stops_of : Concern → List HandsetRow → List HandsetLink → List ConcernedHandset
stops_of (Offer now) handsets links = mention_stops handsets
stops_of (Fire now) handsets links = mention_stops handsets
stops_of (FireUnmentioned now) handsets links = link_stops 1 links
stops_of Awaited handsets links = link_stops 1 links

-- ---- those that it concerns

abbrev pub is_stop : Concern → List HandsetRow → List HandsetLink → (List ℕ → List QueuedPart) → ConcernedHandset → Bool
is_stop purpose handsets links waiting s = is_wanted purpose (handset_at s.number handsets) (link_of s.number links) (waiting s.number)

abbrev pub found : Concern → List HandsetRow → List HandsetLink → (List ℕ → List QueuedPart) → List ConcernedHandset
found purpose handsets links waiting = filter (is_stop purpose handsets links waiting) (stops_of purpose handsets links)

-- ---- found by looking at few queues

-- such an event can concern it
abbrev pub is_active : HandsetLink → Bool
is_active link = if link.is_up then true else (if link.is_awaited then true else is_timed link.near_end.links)

-- the place of the queue in the order, if it has one
abbrev pub place_of : Option HandsetRow → Option ℕ
place_of None = None
place_of (Some h) = Some h.place

abbrev pub link_order : ℕ → Option ℕ
link_order link_place = if link_place == 0 then None else Some link_place

abbrev pub order_of : Concern → PlacedQueue → Option ℕ
order_of (Offer now) placed = place_of placed.queue.row
order_of (Fire now) placed = place_of placed.queue.row
order_of (FireUnmentioned now) placed = link_order placed.link_place
order_of Awaited placed = link_order placed.link_place

abbrev pub stop_in : PlacedQueue → Option ℕ → Option ConcernedHandset
stop_in placed None = None
stop_in placed (Some order) = Some (record { order = order; number = placed.queue.link.handset })

-- the stop at a queue, if it is one
abbrev pub stop_at : Concern → PlacedQueue → Option ConcernedHandset
stop_at purpose placed =
    if is_wanted purpose placed.queue.row placed.queue.link placed.queue.waiting then stop_in placed (order_of purpose placed) else None

abbrev pub stop_if : Concern → Option PlacedQueue → Option ConcernedHandset
stop_if purpose None = None
stop_if purpose (Some placed) = stop_at purpose placed

abbrev pub noted : Option ConcernedHandset → List ConcernedHandset → List ConcernedHandset
noted None stops = stops
noted (Some s) stops = put stop_key s stops

-- the stops among the queues of these keys, beside others
abbrev pub all_noted : {A : Type 0} → Concern → DeliveryQueuesDraftOf → List (ℕ × A) → List ConcernedHandset → List ConcernedHandset
all_noted purpose p [] stops = stops
all_noted purpose p (e ∷ es) stops = all_noted purpose p es (noted (stop_if purpose (at e.0 p)) stops)

-- ---- a moment at which nothing was left to offer

-- nothing is left at an earlier one either
abbrev pub rests_for : Concern → Option ℕ → Bool
rests_for (Offer now) None = false
rests_for (Offer now) (Some moment) = nat_le now moment
rests_for (Fire now) moment = false
rests_for (FireUnmentioned now) moment = false
rests_for Awaited moment = false

-- the moment, where nothing is left to offer at it
abbrev pub rested_at : ℕ → List ConcernedHandset → Option ℕ
rested_at now [] = Some now
rested_at now (s ∷ ss) = None

-- the queues that the event touched, and those of the index where they have to be looked at
abbrev pub scanned : Concern → DeliveryQueuesDraftOf → List ConcernedHandset
scanned purpose p =
    let touched : List ConcernedHandset = all_noted purpose p p.touched [] in
    if rests_for purpose p.base.rested then touched else all_noted purpose p p.base.index touched
