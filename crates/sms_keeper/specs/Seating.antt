-- What contracts see of a keeper's seats.
use Rattle.std.specs.Prelude.{◌≡◌, ◌<◌, ℕ, List, [], None}
use Rattle.sms_seats.specs.declared.seat.Seat.{Seat}
use Rattle.sms_seats.specs.Seats.{IsNewSeat as IsNewAt, IsSeatOf as IsSeatAt}
use Rattle.sms_keeper.specs.declared.keeper.Keeper.{Keeper}
use Rattle.sms_keeper.specs.declared.machine.Item.{Item}
use Rattle.sms_keeper.specs.History.{work, asked, answers_in}
use Rattle.sms_keeper.specs.Keeping.{ran_by, given_by, seats_of, last_tick, IsClosed, IsSameHub}

module _ {J O : Type 0} where
  -- the seat is at this keeper's queues
  abbrev pub IsSeatOf : Keeper J O → Seat J O → Type 0
  IsSeatOf k s = IsSeatAt k.queues s

  -- a seat of this keeper that was not used
  abbrev pub IsNewSeat : Keeper J O → ℕ → Seat J O → Type 0
  IsNewSeat k n s = IsNewAt k.queues n s

  -- a keeper that has done nothing, with some seats
  pub record IsNewKeeper (n : ℕ) (k : Keeper J O) : Type 0 where
    pub seats : seats_of k ≡ n
    pub ran : ran_by k ≡ []
    pub given : (s : ℕ) → given_by k s ≡ []
    pub last : last_tick k ≡ None

  -- the queues, what was popped and what was given are the same
  pub record IsUnchanged (a b : Keeper J O) : Type 0 where
    pub hub : IsSameHub a b
    pub ran : ran_by b ≡ ran_by a
    pub given : (s : ℕ) → given_by b s ≡ given_by a s
    pub last : last_tick b ≡ last_tick a

  -- the items are all that the keeper did, and all of its seats have closed
  pub record IsAll (k : Keeper J O) (items : List (Item J O)) : Type 0 where
    pub ran : work (ran_by k) ≡ asked items
    pub given : (n : ℕ) → n < seats_of k → given_by k n ≡ answers_in n items
    pub closed : IsClosed k
