-- What contracts see of a seat.
use Rattle.std.specs.Prelude.{◌≡◌, ℕ, List, [], Option, Some, map, slice_get}
use Rattle.std.specs.Arc.{arc_value}
use Rattle.crossbeam_queue.specs.Passes.{view, ruled_capacity}
use Rattle.sms_seats.specs.declared.queues.SeatChannel.{SeatChannel}
use Rattle.sms_seats.specs.declared.queues.SeatQueues.{SeatQueues}
use Rattle.sms_seats.specs.declared.seat.Seat.{Seat}
use Rattle.sms_seats.specs.Queues.{slots_in}

module _ {J O : Type 0} where
  abbrev pub number_of : Seat J O → ℕ
  number_of s = s.number

  -- what the seat put: jobs, and at last perhaps the end mark
  abbrev pub put_by : Seat J O → List (Option J)
  put_by s = (view s.pass).put

  -- the answers that the seat took
  abbrev pub taken_by : Seat J O → List O
  taken_by s = (view s.taker).taken

  -- how many jobs the queue holds at most
  abbrev pub slots_of : Seat J O → ℕ
  slots_of s = ruled_capacity (arc_value s.jobs)

  -- how many answers the seat's queue holds at most
  abbrev pub room_of : Seat J O → ℕ
  room_of s = ruled_capacity (arc_value s.answers)

  -- the number and the queues are the same
  pub record IsSameSeat (a b : Seat J O) : Type 0 where
    pub number : b.number ≡ a.number
    pub jobs : b.pass.table_id ≡ a.pass.table_id
    pub answers : b.taker.table_id ≡ a.taker.table_id
    pub slots : slots_of b ≡ slots_of a

  -- the seat is at these queues
  abbrev pub IsSeatOf : SeatQueues J O → Seat J O → Type 0
  IsSeatOf q s = (s.pass.table_id ≡ q.pass.table_id) × (slice_get (map (λ (l : SeatChannel O). l.pass.table_id) q.lines.items) s.number ≡ Some s.taker.table_id)

  -- a seat of these queues that was not used
  pub record IsNewSeat (q : SeatQueues J O) (n : ℕ) (s : Seat J O) : Type 0 where
    pub seat : IsSeatOf q s
    pub number : s.number ≡ n
    pub slots : slots_of s ≡ slots_in q
    pub room : room_of s ≡ slots_in q
    pub put : put_by s ≡ []
    pub taken : taken_by s ≡ []
