-- What contracts see of the ends of the queue.
use Rattle.std.specs.Prelude.{◌≡◌, ℕ, List, []}
use Rattle.crossbeam_channel.specs.Claims.{view}
use Rattle.crossbeam_channel.specs.Ends.{receives_on, sends_on}
use Rattle.smsc_arrivals.specs.declared.sharing.SharesView.{SharesView}
use Rattle.smsc_arrivals.specs.declared.sharing.ends.Giver.{Giver}
use Rattle.smsc_arrivals.specs.declared.sharing.ends.Taker.{Taker}

module _ {T : Type 0} where
  -- what whoever gives knows
  abbrev pub known_by : Giver T → SharesView T
  known_by g = view g.pass

  -- what was given
  abbrev pub given_by : Giver T → List T
  given_by g = (view g.pass).given

  -- how many seats were made
  abbrev pub made_by : Giver T → ℕ
  made_by g = (view g.pass).made

  -- what each seat took whose end came back, by the seat's number
  abbrev pub settled_at : Giver T → List (List T)
  settled_at g = (view g.pass).settled

  -- what was taken back
  abbrev pub returned_to : Giver T → List T
  returned_to g = (view g.pass).returned

  -- the number of the seat
  abbrev pub seat_of : Taker T → ℕ
  seat_of t = (view t.pass).seat

  -- what the seat took
  abbrev pub taken_by : Taker T → List T
  taken_by t = (view t.pass).taken

  -- it is the end of a seat of this queue
  abbrev pub IsWayOf : Giver T → Taker T → Type 0
  IsWayOf g t = receives_on t.receiver ≡ sends_on g.sender

  -- the queue is the same
  abbrev pub IsSameGiver : Giver T → Giver T → Type 0
  IsSameGiver a b = sends_on b.sender ≡ sends_on a.sender

  -- the queue and the number of the seat are the same
  pub record IsSameTaker (a b : Taker T) : Type 0 where
    pub queue : receives_on b.receiver ≡ receives_on a.receiver
    pub seat : seat_of b ≡ seat_of a

  pub record IsNewGiver (g : Giver T) : Type 0 where
    pub given : given_by g ≡ []
    pub made : made_by g ≡ 0
    pub settled : settled_at g ≡ []
    pub returned : returned_to g ≡ []

  -- the end of a seat of this queue that took nothing yet
  pub record IsNewTaker (g : Giver T) (n : ℕ) (t : Taker T) : Type 0 where
    pub way : IsWayOf g t
    pub seat : seat_of t ≡ n
    pub taken : taken_by t ≡ []
