-- What the threads of seats hand back, one after the other.
use Rattle.std.proofs.Common.{◌≡◌, ◌⊎◌, ◌+◌, ◌<◌, ℕ, zero, suc, List, [], ◌∷◌, ◌++◌, length, slice_get, Option, Some, true, refl, sym, ap, subst, ◌∙◌, inl, inr, length-append, arith}
use Rattle.sms_centre_spec.specs.declared.jobs.job.Job.{Job}
use Rattle.sms_centre_spec.specs.declared.jobs.reply.Reply.{Reply}
use Rattle.sms_seats.specs.Jobs.{has_end, of}
use Rattle.sms_seats.specs.Seats.{number_of}
use Rattle.sms_keeper.specs.declared.keeper.Keeper.{Keeper}
use Rattle.sms_keeper.specs.History.{for_seat, work}
use Rattle.sms_keeper.specs.Keeping.{IsClosed, given_by, ran_by, seats_of}
use Rattle.sms_keeper.specs.Seating.{IsUnchanged}
use Rattle.smsc_arrivals.specs.declared.arrival.Arrival.{Arrival}
use Rattle.smsc_server.specs.serving.Connections.{Admitted}
use Rattle.smsc_server.specs.serving.SeatThreads.{HaveAdmitted, SeatThread, admitted_by, seat_in}
use Rattle.smsc_server.specs.serving.Sittings.{SeatDid}
use Rattle.sms_seats.proofs.Places.{slice_get_longer}
use Rattle.smsc_server.proofs.serving.Sat.{did_same}
use Rattle.smsc_server.proofs.serving.Threads.{at_length}

pub below_next : (m n : ℕ) → m < suc n → (m < n) ⊎ (m ≡ n)
below_next zero zero h = inr refl
below_next zero (suc n) h = inl (omega arith)
below_next (suc m) zero h = absurd (omega arith)
below_next (suc m) (suc n) h = next (below_next m n (omega arith))
  where
    next : (m < n) ⊎ (m ≡ n) → (suc m < suc n) ⊎ (suc m ≡ suc n)
    next (inl less) = inl (omega arith)
    next (inr is) = inr (ap suc is)

at_longer : {A : Type 0} (xs : List A) (y x : A) (n : ℕ) → slice_get xs n ≡ Some x → slice_get (xs ++ y ∷ []) n ≡ Some x
at_longer xs y x n e = slice_get_longer xs (y ∷ []) x n e

at_last : {A : Type 0} (xs : List A) (y : A) → slice_get (xs ++ y ∷ []) (length xs) ≡ Some y
at_last xs y = at_length xs y []

-- one more at the end of a list, whose places have something that is so of each
pub at_next : {A T : Type 0} (P : ℕ → A → Type 0) (list more : List A) (x : A) (seen : List T) (t : T) → more ≡ list ++ x ∷ [] → length list ≡ length seen
    → ((n : ℕ) → n < length seen → (y : A) × (slice_get list n ≡ Some y) × P n y) → P (length seen) x
    → (n : ℕ) → n < length (seen ++ t ∷ []) → (y : A) × (slice_get more n ≡ Some y) × P n y
at_next {A} P list more x seen t e same before here n less =
    by_place (below_next n (length seen) (let d = length-append seen (t ∷ []) in omega (arith, less, d)))
  where
    by_place : (n < length seen) ⊎ (n ≡ length seen) → (y : A) × (slice_get more n ≡ Some y) × P n y
    by_place (inl below) =
        let h = before n below in (h.0, ap (λ (l : List A). slice_get l n) e ∙ at_longer list x h.0 n h.1, h.2)
    by_place (inr is) = (
      x,
      ap (λ (l : List A). slice_get l n) e ∙ (ap (slice_get (list ++ x ∷ [])) (is ∙ sym same) ∙ at_last list x),
      subst (λ (m : ℕ). P m x) (sym is) here,
    )

module _ {S : Type 0} (remaining contents : S → Option (List ℕ)) where
  -- what a thread that came back did, of the keeper as it was at first
  pub did_here : (a b : Keeper Job Reply) (n : ℕ) (t : SeatThread S) (took : List (Arrival S)) → IsUnchanged a b → number_of (seat_in t) ≡ n
      → IsClosed a → n < seats_of a
      → (has_end (of (number_of (seat_in t)) (ran_by b)) ≡ true
      → SeatDid remaining contents (admitted_by t.promise) (for_seat (number_of (seat_in t)) (work (ran_by b))) (given_by b (number_of (seat_in t))) took)
      → (admitted : Admitted) → admitted_by t.promise ≡ admitted → SeatDid remaining contents admitted (for_seat n (work (ran_by a))) (given_by a n) took
  did_here a b n t took same is closed less h admitted have =
      let did = h (ap (λ (k : ℕ). has_end (of k (ran_by b))) is ∙ (ap (λ l. has_end (of n l)) same.ran ∙ closed n less)) in
      did_same remaining contents admitted _ _ _ _ _ _
      (ap (λ l. for_seat n (work l)) (sym same.ran) ∙ ap (λ (k : ℕ). for_seat k (work (ran_by b))) (sym is))
      (sym (same.given n) ∙ ap (given_by b) (sym is))
      refl
      (subst (λ (l : Admitted). SeatDid remaining contents l (for_seat (number_of (seat_in t)) (work (ran_by b))) (given_by b (number_of (seat_in t))) took) have did)
