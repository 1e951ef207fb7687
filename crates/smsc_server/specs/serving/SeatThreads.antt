-- The threads of the seats.
use Rattle.std.specs.Prelude.{◌≡◌, ℕ, List, [], ◌∷◌, ◌++◌, length, Option, Some, slice_get, ⊤}
use Rattle.std.specs.Arc.{arc_value}
use Rattle.std.specs.declared.thread.PromisedHandle.{PromisedHandle}
use Rattle.sms_centre_spec.specs.declared.jobs.job.Job.{Job}
use Rattle.sms_centre_spec.specs.declared.jobs.reply.Reply.{Reply}
use Rattle.sms_seats.specs.declared.seat.Seat.{Seat}
use Rattle.sms_seats.specs.Seats.{number_of}
use Rattle.sms_keeper.specs.declared.keeper.Keeper.{Keeper}
use Rattle.sms_keeper.specs.Seating.{IsSeatOf}
use Rattle.smsc_arrivals.specs.Ways.{IsNewTaker, IsWayOf, given_by, made_by, returned_to, seat_of, settled_at}
use Rattle.smsc_arrivals.specs.declared.arrival.Arrival.{Arrival}
use Rattle.smsc_arrivals.specs.declared.sharing.ends.Giver.{Giver}
use Rattle.smsc_arrivals.specs.declared.sharing.ends.Taker.{Taker}
use Rattle.smsc_server.specs.serving.Connections.{Admitted, admits}
use Rattle.smsc_server.specs.declared.serving.endpoints.Returned.{Returned}
use Rattle.smsc_server.specs.declared.serving.seat_thread.SeatPromise.{SeatPromise}

-- the thread of a seat
abbrev pub SeatThread : Type 0 → Type 0
SeatThread S = PromisedHandle (Returned S) (SeatPromise S)

module _ {S : Type 0} where
  abbrev pub admitted_by : SeatPromise S → Admitted
  admitted_by promise = admits (arc_value promise.accounts.value) (arc_value promise.access.value)

  -- the seat that the thread was given
  abbrev pub seat_in : SeatThread S → Seat Job Reply
  seat_in t = t.promise.seat.value

  -- where the thread takes connections
  abbrev pub end_of : SeatThread S → Taker (Option (Arrival S))
  end_of t = t.promise.taker.value

  -- each thread has a seat of the keeper, whose number is the thread's place
  abbrev pub AreAt : Keeper Job Reply → List (SeatThread S) → Type 0
  AreAt keeper threads = (n : ℕ) (t : SeatThread S) → slice_get threads n ≡ Some t → IsSeatOf keeper (seat_in t) × (number_of (seat_in t) ≡ n)

  -- and takes connections of this queue, under the same number
  abbrev pub AreWays : Giver (Option (Arrival S)) → List (SeatThread S) → Type 0
  AreWays giver threads = (n : ℕ) (t : SeatThread S) → slice_get threads n ≡ Some t → IsWayOf giver (end_of t) × (seat_of (end_of t) ≡ n)

  -- whom all of them admit
  abbrev pub HaveAdmitted : Admitted → List (SeatThread S) → Type 0
  HaveAdmitted admitted threads = (n : ℕ) (t : SeatThread S) → slice_get threads n ≡ Some t → admitted_by t.promise ≡ admitted

module _ {S : Type 0} (admitted : Admitted) where
  -- it is the thread of this seat
  abbrev pub IsThreadOf : Seat Job Reply → SeatThread S → Type 0
  IsThreadOf s t = (seat_in t ≡ s) × (admitted_by t.promise ≡ admitted)

  -- one thread more, of this seat and of the next end of the queue
  abbrev pub HasOneMore : Giver (Option (Arrival S)) → ℕ → Seat Job Reply → List (SeatThread S) → List (SeatThread S) → Type 0
  HasOneMore giver n s threads more = (t : SeatThread S) × (more ≡ threads ++ t ∷ []) × IsThreadOf s t × IsNewTaker giver n (end_of t)

  -- the threads are those of the seats, in order
  abbrev pub AreThreadsOf : List (Seat Job Reply) → List (SeatThread S) → Type 0
  AreThreadsOf [] [] = ⊤
  AreThreadsOf (s ∷ seats) (t ∷ threads) = IsThreadOf s t × AreThreadsOf seats threads
  AreThreadsOf [] (t ∷ threads) = ⊥
  AreThreadsOf (s ∷ seats) [] = ⊥

  -- the threads of these seats were started, each at an end of the queue of its own, into which nothing was given yet
  pub record HaveStarted (giver : Giver (Option (Arrival S))) (seats : List (Seat Job Reply)) (threads : List (SeatThread S)) : Type 0 where
    pub threads_so : AreThreadsOf seats threads
    pub ways : AreWays giver threads
    pub made : made_by giver ≡ length threads
    pub given : given_by giver ≡ []
    pub settled : settled_at giver ≡ []
    pub returned : returned_to giver ≡ []
