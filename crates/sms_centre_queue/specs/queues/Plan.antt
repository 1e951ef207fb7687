-- What an event leaves of the queues, ready made, and putting it in.
use Rattle.std.specs.Prelude.{◌≡◌, ◌⊎◌, ℕ, ◌+◌, ◌≤◌, List, [], ◌∷◌, nat_eq, if◌then◌else◌, length, max, Bool, Option, Some, None}
use Rattle.std.specs.Option.{option_or}
use Rattle.sms_centre_queue.specs.declared.queues.placed_queue.PlacedQueue.{PlacedQueue}
use Rattle.sms_centre_queue.specs.declared.queues.concern.Concern.TheVariants.{Offer}
use Rattle.sms_centre_queue.specs.queues.Queues.{SharedQueuesOf, DeliveryQueuesDraftOf, DeliveryQueuesOf, is_listed, under}
use Rattle.sms_centre_queue.specs.queues.Stops.{is_active, scanned}

pub record DeliveryQueuesPlanOf : Type 0 where
  -- the queues as they were put in last, shared
  pub ground : SharedQueuesOf
  -- those that changed since, as they are
  pub touched : List (ℕ × PlacedQueue)
  -- how many queues, and how many keys, their own memory holds
  pub reserve : ℕ
  pub index_reserve : ℕ
  pub next_place : ℕ
  pub link_count : ℕ
  pub rested : Option ℕ

-- they can be put in without taking memory
pub record FitsIn (reserve index_reserve : ℕ) (touched : List (ℕ × PlacedQueue)) (ground : SharedQueuesOf) : Type 0 where
  pub queues : length ground.queues + length touched ≤ max ground.capacity reserve
  pub index : length ground.index + length touched ≤ max ground.index_capacity index_reserve

abbrev pub FitsTheQueues : DeliveryQueuesPlanOf → Type 0
FitsTheQueues settled = FitsIn settled.reserve settled.index_reserve settled.touched settled.ground

-- it is what the event left
pub record IsSettled (p : DeliveryQueuesDraftOf) (settled : DeliveryQueuesPlanOf) : Type 0 where
  pub ground : settled.ground ≡ p.base
  pub touched : settled.touched ≡ p.touched
  pub next_place : settled.next_place ≡ p.next_place
  pub link_count : settled.link_count ≡ p.link_count
  -- nothing was left to offer at that moment
  pub rested : (moment : ℕ) → settled.rested ≡ Some moment → scanned (Offer moment) p ≡ []

-- a queue that was touched is in the index where it belongs there
abbrev pub relisted : Option PlacedQueue → Bool → Bool
relisted None is_listed = is_listed
relisted (Some placed) is_listed = is_active placed.queue.link

-- the queues that were touched were put into the ground
pub record IsInstalled (touched : List (ℕ × PlacedQueue)) (since : Option ℕ) (old new : SharedQueuesOf) : Type 0 where
  pub queues : (key : ℕ) → under key new.queues ≡ option_or (under key touched) (under key old.queues)
  pub index : (key : ℕ) → is_listed key new.index ≡ relisted (under key touched) (is_listed key old.index)
  pub rested : new.rested ≡ since

-- they were put into the ground, and none is left beside it; or they are all beside it, where another share of it is about
abbrev pub IsPutIn : DeliveryQueuesPlanOf → DeliveryQueuesOf → Type 0
IsPutIn settled new =
    (IsInstalled settled.touched settled.rested settled.ground new.ground × (new.touched ≡ []))
    ⊎ ((new.ground ≡ settled.ground) × (new.touched ≡ settled.touched))

pub record IsAdopted (settled : DeliveryQueuesPlanOf) (new : DeliveryQueuesOf) : Type 0 where
  pub put_in : IsPutIn settled new
  pub next_place : new.next_place ≡ settled.next_place
  pub link_count : new.link_count ≡ settled.link_count

-- the same, one after the other
abbrev pub relisted_all : ℕ → List (ℕ × PlacedQueue) → Bool → Bool
relisted_all key [] is_listed = is_listed
relisted_all key (e ∷ es) is_listed = relisted_all key es (if nat_eq key e.0 then is_active e.1.queue.link else is_listed)

-- the queues that are under their keys, one after the other
abbrev pub placed_all : ℕ → List (ℕ × PlacedQueue) → Option PlacedQueue → Option PlacedQueue
placed_all key [] placed = placed
placed_all key (e ∷ es) placed = placed_all key es (if nat_eq key e.0 then Some e.1 else placed)
