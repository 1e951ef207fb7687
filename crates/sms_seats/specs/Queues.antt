-- What contracts see of the keeper's end of the queues.
use Rattle.std.specs.Prelude.{◌≡◌, ◌<◌, ◌+◌, ℕ, zero, suc, true, List, [], ◌∷◌, length, map}
use Rattle.std.specs.Arc.{arc_value}
use Rattle.crossbeam_queue.specs.Passes.{view, ruled_capacity}
use Rattle.sms_seats.specs.declared.jobs.Letter.{Letter}
use Rattle.sms_seats.specs.declared.queues.SeatChannel.{SeatChannel}
use Rattle.sms_seats.specs.declared.queues.SeatQueues.{SeatQueues}
use Rattle.sms_seats.specs.Jobs.{of, has_end}

module _ {O : Type 0} where
  -- what one seat was given
  abbrev pub given_at : List (SeatChannel O) → ℕ → List O
  given_at [] k = []
  given_at (l ∷ ls) zero = (view l.pass).given
  given_at (l ∷ ls) (suc k) = given_at ls k

  -- the queues of the lines are the same
  abbrev pub IsSameLines : List (SeatChannel O) → List (SeatChannel O) → Type 0
  IsSameLines us bs = map (λ (l : SeatChannel O). l.pass.table_id) bs ≡ map (λ (l : SeatChannel O). l.pass.table_id) us

module _ {J O : Type 0} where
  -- how many seats were made
  abbrev pub seats_of : SeatQueues J O → ℕ
  seats_of q = length q.lines.items

  -- how many jobs the queue holds at most
  abbrev pub slots_in : SeatQueues J O → ℕ
  slots_in q = ruled_capacity (arc_value q.jobs)

  -- what was popped
  abbrev pub ran_by : SeatQueues J O → List (Letter J)
  ran_by q = (view q.pass).ran

  -- what one seat was given
  abbrev pub given_by : SeatQueues J O → ℕ → List O
  given_by q n = given_at q.lines.items n

  -- the end mark of each seat was popped
  abbrev pub IsClosed : SeatQueues J O → Type 0
  IsClosed q = (n : ℕ) → n < seats_of q → has_end (of n (ran_by q)) ≡ true

  -- the queues are the same
  abbrev pub IsSameQueues : SeatQueues J O → SeatQueues J O → Type 0
  IsSameQueues a b = (b.pass.table_id ≡ a.pass.table_id) × IsSameLines a.lines.items b.lines.items

  -- nothing was popped or given
  pub record IsUnused (q : SeatQueues J O) : Type 0 where
    pub ran : ran_by q ≡ []
    pub given : (n : ℕ) → given_by q n ≡ []

  -- there is one seat more, and nothing else has changed
  pub record HasOneMore (a b : SeatQueues J O) : Type 0 where
    pub seats : seats_of b ≡ seats_of a + 1
    pub ran : ran_by b ≡ ran_by a
    pub given : (n : ℕ) → given_by b n ≡ given_by a n

  -- the queues, what was popped and what was given are the same
  pub record IsUnchanged (a b : SeatQueues J O) : Type 0 where
    pub queues : IsSameQueues a b
    pub ran : ran_by b ≡ ran_by a
    pub given : (n : ℕ) → given_by b n ≡ given_by a n
