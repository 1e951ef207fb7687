-- What contracts see of a keeper.
use Rattle.std.specs.Prelude.{◌≡◌, ◌<◌, ℕ, List, ◌++◌, Option}
use Rattle.sms_seats.specs.declared.jobs.Letter.{Letter}
use Rattle.sms_seats.specs.declared.queues.SeatQueues.{SeatQueues}
use Rattle.sms_seats.specs.Queues.{IsSameQueues, given_by as given_in, ran_by as ran_in, seats_of as seats_in, slots_in as slots_of, IsClosed as AllClosed}
use Rattle.sms_keeper.specs.declared.machine.Item.{Item}
use Rattle.sms_keeper.specs.declared.outs.Out.{Out}
use Rattle.sms_keeper.specs.declared.keeper.Keeper.{Keeper}
use Rattle.sms_keeper.specs.History.{IsRising, asked, answers_in, outs_to, work}

module _ {J O : Type 0} where
  -- each seat was given the outs for it
  abbrev pub Gave : SeatQueues J O → SeatQueues J O → List (Out O) → Type 0
  Gave a b outs = (n : ℕ) → n < seats_in a → given_in b n ≡ given_in a n ++ outs_to n outs

  -- each seat was given the outs for it in all these items
  abbrev pub GaveAll : SeatQueues J O → SeatQueues J O → List (Item J O) → Type 0
  GaveAll a b items = (n : ℕ) → n < seats_in a → given_in b n ≡ given_in a n ++ answers_in n items

  -- how many seats the keeper has made
  abbrev pub seats_of : Keeper J O → ℕ
  seats_of k = seats_in k.queues

  -- how many jobs the queue holds at most
  abbrev pub slots_in : Keeper J O → ℕ
  slots_in k = slots_of k.queues

  -- what the keeper popped
  abbrev pub ran_by : Keeper J O → List (Letter J)
  ran_by k = ran_in k.queues

  -- what the keeper gave one seat
  abbrev pub given_by : Keeper J O → ℕ → List O
  given_by k n = given_in k.queues n

  -- the moment of its last tick
  abbrev pub last_tick : Keeper J O → Option ℕ
  last_tick k = k.last

  -- the end mark of each seat was popped
  abbrev pub IsClosed : Keeper J O → Type 0
  IsClosed k = AllClosed k.queues

  -- the queues are the same
  abbrev pub IsSameHub : Keeper J O → Keeper J O → Type 0
  IsSameHub a b = IsSameQueues a.queues b.queues

  -- the keeper gave each seat the outs for it
  abbrev pub GaveOuts : Keeper J O → Keeper J O → List (Out O) → Type 0
  GaveOuts a b outs = Gave a.queues b.queues outs

module _ {J O : Type 0} (reads : ℕ → Type 0) where
  -- What the keeper did by these items: it ran their jobs in order, each as it popped it, and gave each seat its outs.
  pub record IsStretch (a : Keeper J O) (items : List (Item J O)) (b : Keeper J O) : Type 0 where
    pub hub : IsSameHub a b
    pub ran : work (ran_by b) ≡ work (ran_by a) ++ asked items
    pub given : (k : ℕ) → k < seats_of a → given_by b k ≡ given_by a k ++ answers_in k items
    pub ticks : IsRising reads (last_tick a) items (last_tick b)
