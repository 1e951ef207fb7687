-- Deadlines of messages, and their order in a heap.
use Rattle.std.specs.Prelude.{◌≡◌, ℕ, zero, suc, ◌-◌, ◌/◌, ◌≤◌, ◌<◌, List, [], ◌∷◌, length, slice_index_or, Option, Some, None}
use Rattle.std.specs.Ordering.{nat_cmp, ordering_then}
use Rattle.std.specs.declared.cmp.Ordering.{Ordering}
use Rattle.std.specs.declared.cmp.Reverse.{Reverse}
use Rattle.sms_base.specs.Among.{Among}
use Rattle.sms_rows.specs.declared.expiry.deadline.Deadline.{Deadline}

-- the earlier moment first, and of one moment the lower message
abbrev pub deadline_cmp : Deadline → Deadline → Ordering
deadline_cmp a b = ordering_then (nat_cmp a.limit b.limit) (nat_cmp a.id b.id)

-- a heap has the greatest first, which is to be the earliest
abbrev pub heap_cmp : Reverse Deadline → Reverse Deadline → Ordering
heap_cmp a b = deadline_cmp b.0 a.0

abbrev pub inside : Reverse Deadline → Deadline
inside r = r.0

-- the deadlines, and how many the memory holds
pub record DeadlinesOf : Type 0 where
  pub items : List Deadline
  pub capacity : ℕ

abbrev pub first_of : List Deadline → Option Deadline
first_of [] = None
first_of (d ∷ ds) = Some d

-- each deadline that is reached is that of one of these messages
abbrev pub HasPast : ℕ → List Deadline → List ℕ → Type 0
HasPast now items ids = (d : Deadline) → Among d items → d.limit ≤ now → Among d.id ids

-- each of these messages has a deadline that is reached
abbrev pub HasOnlyPast : ℕ → List Deadline → List ℕ → Type 0
HasOnlyPast now items ids = (id : ℕ) → Among id ids → (d : Deadline) × Among d items × (d.limit ≤ now) × (d.id ≡ id)

-- ---- places in a heap

-- the place above
abbrev pub above : ℕ → ℕ
above k = (k - 1) / 2

-- the place that many steps above
abbrev pub steps_above : ℕ → ℕ → ℕ
steps_above zero k = k
steps_above (suc n) k = above (steps_above n k)

-- at the place or below it
abbrev pub IsUnder : ℕ → ℕ → Type 0
IsUnder place k = (n : ℕ) × (steps_above n k ≡ place)

-- each that is reached, from that place on downwards, is that of one of these messages
abbrev pub IsCollected : ℕ → List (Reverse Deadline) → ℕ → List ℕ → Type 0
IsCollected now heap place ids =
    (k : ℕ) (d : Reverse Deadline) → IsUnder place k → k < length heap → (slice_index_or heap k d).0.limit ≤ now → Among (slice_index_or heap k d).0.id ids

-- the deadline at the place is that of the message
abbrev pub IsOf : List (Reverse Deadline) → ℕ → ℕ → Type 0
IsOf heap place id = (d : Reverse Deadline) → (slice_index_or heap place d).0.id ≡ id

-- a deadline of the heap that is reached is that of the message
abbrev pub IsPastIn : ℕ → List (Reverse Deadline) → ℕ → Type 0
IsPastIn now heap id = (d : Reverse Deadline) × Among d heap × (d.0.limit ≤ now) × (d.0.id ≡ id)
