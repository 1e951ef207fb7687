-- The threads of the seats, and one more of them.
use Rattle.std.proofs.Common.{◌≡◌, ◌⊎◌, ◌+◌, ◌<◌, ℕ, zero, suc, Bool, true, false, true≢false, List, [], ◌∷◌, ◌++◌, length, slice_get, Option, Some, None, Result, Ok, Err, IfOk, OnOk, refl, sym, ap, subst, ◌∙◌, inl, inr, ⊎_elim, append_assoc, append-nil, length-append, arith}
use Rattle.std.specs.Prelude.{is_ok}
use Rattle.std.proofs.lemmas.Option.{none-some, same_Some}
use Rattle.std.specs.Arc.{arc_value}
use Rattle.smsc_endpoint.specs.declared.link_access.LinkAccess.{LinkAccess}
use Rattle.sms_centre_spec.specs.declared.jobs.job.Job.{Job}
use Rattle.sms_centre_spec.specs.declared.jobs.reply.Reply.{Reply}
use Rattle.sms_seats.specs.declared.seat.Seat.{Seat}
use Rattle.sms_seats.specs.Seats.{number_of}
use Rattle.sms_keeper.specs.declared.keeper.Keeper.{Keeper}
use Rattle.sms_keeper.specs.Keeping.{IsSameHub}
use Rattle.sms_keeper.specs.Seating.{IsNewSeat, IsSeatOf}
use Rattle.sms_keeper.proofs.Histories.{seat_kept}
use Rattle.smsc_server.specs.serving.AccountBooks.{Book}
use Rattle.smsc_server.specs.serving.Connections.{Admitted, admits}
use Rattle.sms_seats.proofs.Places.{length_snoc, slice_get_snoc}
use Rattle.crossbeam_channel.specs.Ends.{receives_on}
use Rattle.smsc_arrivals.specs.Ways.{IsNewGiver, IsNewTaker, IsSameGiver, given_by as items_given, made_by, returned_to, seat_of, settled_at}
use Rattle.smsc_arrivals.specs.declared.arrival.Arrival.{Arrival}
use Rattle.smsc_arrivals.specs.declared.sharing.ends.Giver.{Giver}
use Rattle.smsc_arrivals.specs.declared.sharing.ends.Taker.{Taker}
use Rattle.smsc_server.specs.serving.Entering.{HasSameSeats}
use Rattle.smsc_server.specs.serving.SeatThreads.{AreAt, AreThreadsOf, AreWays, HasOneMore, HaveAdmitted, HaveStarted, IsThreadOf, SeatThread, admitted_by, end_of, seat_in}

pub at_length : {A : Type 0} (xs : List A) (x : A) (rest : List A) → slice_get (xs ++ x ∷ rest) (length xs) ≡ Some x
at_length [] x rest = refl
at_length (first ∷ xs) x rest = at_length xs x rest

-- what stands behind those that were seen
pub at_split : {A : Type 0} (all xs rest : List A) (x : A) (left : List A) → xs ++ rest ≡ all → rest ≡ x ∷ left → slice_get all (length xs) ≡ Some x
at_split {A} all xs rest x left e f = ap (λ (l : List A). slice_get l (length xs)) (sym e ∙ ap (λ (l : List A). xs ++ l) f) ∙ at_length xs x left

pub split_next : {A : Type 0} (all xs rest : List A) (x : A) (left : List A) → xs ++ rest ≡ all → rest ≡ x ∷ left → (xs ++ x ∷ []) ++ left ≡ all
split_next {A} all xs rest x left e f = append_assoc xs (x ∷ []) left ∙ (ap (λ (l : List A). xs ++ l) (sym f) ∙ e)

pub place_left : {A : Type 0} (all xs left : List A) (x : A) (m : ℕ) → length all ≡ m → (xs ++ x ∷ []) ++ left ≡ all → length xs < m
place_left {A} all xs left x m e f =
    let a : length ((xs ++ x ∷ []) ++ left) ≡ length all = ap length f in
    let b = length-append (xs ++ x ∷ []) left in
    let d = length-append xs (x ∷ []) in
    omega arith

pub split_last : {A : Type 0} (all xs rest : List A) → xs ++ rest ≡ all → rest ≡ [] → xs ≡ all
split_last {A} all xs rest e f = sym (append-nil xs) ∙ (ap (λ (l : List A). xs ++ l) (sym f) ∙ e)

-- ---- results

pub ok_so : {E : Type 0} (P : Type 0) (r : Result (Unit {0}) E) → is_ok r ≡ true → OnOk r P → P
ok_so P (Ok done) e h = h
ok_so P (Err fault) e h = absurd (true≢false (sym e))

pub not_ok_so : {E : Type 0} (P : Type 0) (r : Result (Unit {0}) E) → is_ok r ≡ false → OnOk r P
not_ok_so P (Ok done) e = absurd (true≢false e)
not_ok_so P (Err fault) e = tt

pub ok_then : {E : Type 0} (P Q : Type 0) (r : Result (Unit {0}) E) → (P → Q) → OnOk r P → OnOk r Q
ok_then P Q (Ok done) f h = f h
ok_then P Q (Err fault) f h = tt

pub both_ok : {E : Type 0} (P Q R : Type 0) (r : Result (Unit {0}) E) → (P → Q → R) → OnOk r P → OnOk r Q → OnOk r R
both_ok P Q R (Ok done) f h k = f h k
both_ok P Q R (Err fault) f h k = tt

-- ---- threads that were started

module _ {S : Type 0} (admitted : Admitted) where
  pub threads_more : (giver : Giver (Option (Arrival S))) (n : ℕ) (s : Seat Job Reply) (seats : List (Seat Job Reply)) (threads more : List (SeatThread S))
      → AreThreadsOf admitted seats threads → HasOneMore admitted giver n s threads more → AreThreadsOf admitted (seats ++ s ∷ []) more
  threads_more giver n s seats threads more h k =
      subst (λ (l : List (SeatThread S)). AreThreadsOf admitted (seats ++ s ∷ []) l) (sym k.1) (behind seats threads h)
    where
      behind : (seats : List (Seat Job Reply)) (threads : List (SeatThread S)) → AreThreadsOf admitted seats threads
          → AreThreadsOf admitted (seats ++ s ∷ []) (threads ++ k.0 ∷ [])
      behind [] [] h = (k.2, tt)
      behind [] (t ∷ threads) h = absurd h
      behind (first ∷ seats) [] h = absurd h
      behind (first ∷ seats) (t ∷ threads) h = (h.0, behind seats threads h.1)

  pub threads_count : (seats : List (Seat Job Reply)) (threads : List (SeatThread S)) → AreThreadsOf admitted seats threads → length threads ≡ length seats
  threads_count [] [] h = refl
  threads_count [] (t ∷ threads) h = absurd h
  threads_count (s ∷ seats) [] h = absurd h
  threads_count (s ∷ seats) (t ∷ threads) h = ap suc (threads_count seats threads h.1)

  thread_at : (seats : List (Seat Job Reply)) (threads : List (SeatThread S)) → AreThreadsOf admitted seats threads → (n : ℕ) (t : SeatThread S)
      → slice_get threads n ≡ Some t → (s : Seat Job Reply) × (slice_get seats n ≡ Some s) × IsThreadOf admitted s t
  thread_at [] [] h n t e = absurd (none-some t e)
  thread_at [] (first ∷ threads) h n t e = absurd h
  thread_at (s ∷ seats) [] h n t e = absurd h
  thread_at (s ∷ seats) (first ∷ threads) h zero t e = (s, refl, subst (λ (x : SeatThread S). IsThreadOf admitted s x) (same_Some _ _ e) h.0)
  thread_at (s ∷ seats) (first ∷ threads) h (suc n) t e = thread_at seats threads h.1 n t e

  threads_at : (keeper : Keeper Job Reply) (seats : List (Seat Job Reply)) (threads : List (SeatThread S))
      → ((n : ℕ) (s : Seat Job Reply) → slice_get seats n ≡ Some s → IsNewSeat keeper n s) → AreThreadsOf admitted seats threads → AreAt keeper threads
  threads_at keeper seats threads new h n t e =
      let there = thread_at seats threads h n t e in
      let seat = new n there.0 there.1 in
      (subst (λ (x : Seat Job Reply). IsSeatOf keeper x) (sym there.2.0) seat.seat, ap number_of there.2.0 ∙ seat.number)

  pub started_at : (keeper : Keeper Job Reply) (giver : Giver (Option (Arrival S))) (seats : List (Seat Job Reply)) (threads : List (SeatThread S))
      → ((n : ℕ) (s : Seat Job Reply) → slice_get seats n ≡ Some s → IsNewSeat keeper n s) → HaveStarted admitted giver seats threads → AreAt keeper threads
  started_at keeper giver seats threads new h = threads_at keeper seats threads new h.threads_so

  pub threads_have : (seats : List (Seat Job Reply)) (threads : List (SeatThread S)) → AreThreadsOf admitted seats threads → HaveAdmitted admitted threads
  threads_have seats threads h n t e = (thread_at seats threads h n t e).2.1

  -- the thread of a new seat was started
  pub more_from : {E : Type 0} (other : Admitted) (giver : Giver (Option (Arrival S))) (n : ℕ) (taker : Taker (Option (Arrival S))) (s : Seat Job Reply)
      (first between last : List (SeatThread S)) (r : Result (Unit {0}) E) → other ≡ admitted → between ≡ first → IsNewTaker giver n taker
      → OnOk r ((t : SeatThread S) × (last ≡ between ++ t ∷ []) × IsThreadOf other s t × (end_of t ≡ taker)) → OnOk r (HasOneMore admitted giver n s first last)
  more_from other giver n taker s first between last (Err fault) e f new h = tt
  more_from other giver n taker s first between last (Ok done) e f new h = (
    h.0,
    h.1 ∙ ap (λ (l : List (SeatThread S)). l ++ h.0 ∷ []) f,
    subst (λ (a : Admitted). IsThreadOf a s h.0) e h.2,
    subst (λ (x : Taker (Option (Arrival S))). IsNewTaker giver n x) (sym h.3) new,
  )

  pub started_none : (giver : Giver (Option (Arrival S))) (threads : List (SeatThread S)) → IsNewGiver giver → threads ≡ [] → HaveStarted admitted giver [] threads
  started_none giver threads new none = record {
    threads_so = subst (λ (l : List (SeatThread S)). AreThreadsOf admitted [] l) (sym none) tt;
    ways = subst (λ (l : List (SeatThread S)). AreWays giver l) (sym none) (λ n t e. absurd (none-some t e));
    made = new.made ∙ sym (ap length none);
    given = new.given;
    settled = new.settled;
    returned = new.returned;
  }

  pub started_more : (a b : Giver (Option (Arrival S))) (s : Seat Job Reply) (seats : List (Seat Job Reply)) (threads more : List (SeatThread S))
      → HaveStarted admitted a seats threads → HasOneMore admitted b (made_by a) s threads more
      → (IsSameGiver a b × (made_by b ≡ made_by a + 1) × (items_given b ≡ items_given a) × (settled_at b ≡ settled_at a) × (returned_to b ≡ []))
      → HaveStarted admitted b (seats ++ s ∷ []) more
  started_more a b s seats threads more h k g = record {
    threads_so = threads_more b (made_by a) s seats threads more h.threads_so k;
    ways = λ n t e. ⊎_elim
        (λ (old : slice_get threads n ≡ Some t). let way = h.ways n t old in (way.0 ∙ sym g.0, way.1))
        (λ (last : (n ≡ length threads) × (k.0 ≡ t)). (
          ap (λ (x : SeatThread S). receives_on (end_of x).receiver) (sym last.1) ∙ k.3.way,
          ap (λ (x : SeatThread S). seat_of (end_of x)) (sym last.1) ∙ (k.3.seat ∙ (h.made ∙ sym last.0)),
        ))
        (slice_get_snoc threads k.0 t n (ap (λ (l : List (SeatThread S)). slice_get l n) (sym k.1) ∙ e));
    made = g.1 ∙ (ap (λ (n : ℕ). n + 1) h.made ∙ sym (length_snoc threads k.0 more k.1));
    given = g.2 ∙ h.given;
    settled = g.3 ∙ h.settled;
    returned = g.4;
  }

-- what is said of whom the threads admit, and of what came since
pub admitted_so : {S R E D : Type 0} (P : Admitted → D → R → Type 0) (Q : D → Type 0) (threads : List (SeatThread S)) (first second : Admitted) (d : D)
    (r : Result R E) → first ≡ second → IfOk r (λ x. (admitted : Admitted) (doors : D) → HaveAdmitted admitted threads → Q doors → P admitted doors x)
    → HaveAdmitted first threads → Q d → IfOk r (λ x. P second d x)
admitted_so P Q threads first second d (Err fault) e h have entered = tt
admitted_so P Q threads first second d (Ok x) e h have entered = subst (λ (a : Admitted). P a d x) e (h first d have entered)

pub admits_same : (a b : Book) (c d : LinkAccess) → a ≡ b → c ≡ d → admits a c ≡ admits b d
admits_same a b c d e f = ap (λ (x : Book). admits x c) e ∙ ap (λ (y : LinkAccess). admits b y) f

-- the keeper is the same
pub at_kept : {S : Type 0} (a b : Keeper Job Reply) (threads : List (SeatThread S)) → IsSameHub a b → AreAt a threads → AreAt b threads
at_kept a b threads same h n t e = let at = h n t e in (seat_kept a b (seat_in t) same at.0, at.1)

-- and so is the queue
pub ways_kept : {S : Type 0} (a b : Giver (Option (Arrival S))) (threads : List (SeatThread S)) → IsSameGiver a b → AreWays a threads → AreWays b threads
ways_kept a b threads same h n t e = let way = h n t e in (way.0 ∙ sym same, way.1)
