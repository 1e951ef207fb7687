-- Seats and queues that stay the same.
use Rattle.std.proofs.Common.{◌≡◌, ◌<◌, ℕ, map, refl, sym, ap, ◌∙◌, subst, Some, slice_get}
use Rattle.std.proofs.lemmas.List.{length-map}
use Rattle.std.proofs.lemmas.Option.{slice_get_within}
use Rattle.sms_seats.specs.declared.queues.SeatChannel.{SeatChannel}
use Rattle.sms_seats.specs.declared.queues.SeatQueues.{SeatQueues}
use Rattle.sms_seats.specs.declared.seat.Seat.{Seat}
use Rattle.sms_seats.specs.Queues.{seats_of, slots_in, IsSameQueues}
use Rattle.sms_seats.specs.Seats.{number_of, IsNewSeat, IsSameSeat, IsSeatOf}
use Rattle.sms_seats.proofs.Lines.{same_length}

module _ {J O : Type 0} where
  pub same_self : (a : SeatQueues J O) → IsSameQueues a a
  same_self a = (refl, refl)

  pub same_trans : (a b c : SeatQueues J O) → IsSameQueues a b → IsSameQueues b c → IsSameQueues a c
  same_trans a b c h k = (k.0 ∙ h.0, k.1 ∙ h.1)

  pub same_seats : (a b : SeatQueues J O) → IsSameQueues a b → seats_of b ≡ seats_of a
  same_seats a b h = same_length a.lines.items b.lines.items h.1

  -- a new seat is one of the queues that have more seats
  pub seat_stays : (a b : SeatQueues J O) (n : ℕ) (s : Seat J O) → (IsSeatOf a s → IsSeatOf b s) → slots_in b ≡ slots_in a → IsNewSeat a n s → IsNewSeat b n s
  seat_stays a b n s stays slots h = record { seat = stays h.seat; number = h.number; slots = h.slots ∙ sym slots; room = h.room ∙ sym slots; put = h.put; taken = h.taken }

  -- a seat is one of the queues whose keeper did something
  pub seat_kept : (a b : SeatQueues J O) (s : Seat J O) → IsSameQueues a b → IsSeatOf a s → IsSeatOf b s
  seat_kept a b s same h = (h.0 ∙ sym same.0, ap (λ ids. slice_get ids s.number) same.1 ∙ h.1)

  -- a seat that did something is still one of the queues
  pub seat_same : (q : SeatQueues J O) (a b : Seat J O) → IsSameSeat a b → IsSeatOf q a → IsSeatOf q b
  seat_same q a b same h = (same.jobs ∙ h.0, ap (λ n. slice_get (map (λ (l : SeatChannel O). l.pass.table_id) q.lines.items) n) same.number ∙ h.1 ∙ ap Some (sym same.answers))

  -- its number is one of the seats'
  pub seat_within : (q : SeatQueues J O) (s : Seat J O) → IsSeatOf q s → number_of s < seats_of q
  seat_within q s h = subst (λ n. s.number < n) (length-map q.lines.items (λ (l : SeatChannel O). l.pass.table_id)) (slice_get_within (map (λ (l : SeatChannel O). l.pass.table_id) q.lines.items) s.number s.taker.table_id h.1)
