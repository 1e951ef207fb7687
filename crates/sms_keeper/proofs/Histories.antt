-- Histories and answers, one item longer.
use Rattle.std.proofs.Common.{◌≡◌, ◌≢◌, ◌==◌, ◌<◌, ℕ, Bool, true, false, if◌then◌else◌, List, [], ◌∷◌, ◌++◌, map, sym, refl, ap, ◌∙◌, subst, append_assoc, append-nil, Option, Some}
use Rattle.std.proofs.lemmas.Bool.{eq-eqb, ne_eqb}
use Rattle.sms_seats.specs.declared.jobs.Letter.{Letter}
use Rattle.sms_seats.specs.declared.queues.SeatQueues.{SeatQueues}
use Rattle.sms_seats.specs.declared.seat.Seat.{Seat}
use Rattle.sms_seats.specs.Jobs.{has_end}
use Rattle.sms_seats.specs.Queues.{IsSameQueues, given_by as given_in, ran_by as ran_in}
use Rattle.sms_seats.specs.Seats.{number_of, IsSameSeat}
use Rattle.sms_seats.proofs.Seating.{same_seats, seat_kept as kept, seat_same as same_seat, seat_stays as stays_new, seat_within as within}
use Rattle.sms_keeper.specs.declared.machine.Stimulus.{Stimulus}
use Rattle.sms_keeper.specs.declared.machine.Fate.{Fate}
use Rattle.sms_keeper.specs.declared.outs.Out.{Out}
use Rattle.sms_keeper.specs.declared.machine.Item.{Item}
use Rattle.sms_keeper.specs.declared.keeper.Keeper.{Keeper}
use Rattle.sms_keeper.specs.History.{IsHistory, outs_to, answers_in, asked_by, asked, job_of, work}
use Rattle.sms_keeper.specs.Keeping.{seats_of, slots_in, Gave, IsSameHub}
use Rattle.sms_keeper.specs.Seating.{IsNewSeat, IsSeatOf}

module _ {A : Type 0} where
  split_if : (b : Bool) (x : A) (us bs : List A) → (if b then x ∷ (us ++ bs) else us ++ bs) ≡ (if b then x ∷ us else us) ++ bs
  split_if true x us bs = refl
  split_if false x us bs = refl

module _ {J : Type 0} where
  work-append : (xs ys : List (Letter J)) → work (xs ++ ys) ≡ work xs ++ work ys
  work-append [] ys = refl
  work-append (x ∷ xs) ys = ap (λ l. job_of x.seat x.job ++ l) (work-append xs ys) ∙ sym (append_assoc (job_of x.seat x.job) (work xs) (work ys))

  pub work_snoc : (xs : List (Letter J)) (x : Letter J) → work (xs ++ x ∷ []) ≡ work xs ++ job_of x.seat x.job
  work_snoc xs x = work-append xs (x ∷ []) ∙ ap (λ l. work xs ++ l) (append-nil (job_of x.seat x.job))

module _ {O : Type 0} where
  outs_to-append : (k : ℕ) (xs ys : List (Out O)) → outs_to k (xs ++ ys) ≡ outs_to k xs ++ outs_to k ys
  outs_to-append k [] ys = refl
  outs_to-append k (x ∷ xs) ys = ap (λ l. if k == x.seat then x.out ∷ l else l) (outs_to-append k xs ys) ∙ split_if (k == x.seat) x.out (outs_to k xs) (outs_to k ys)

  outs_here : (k : ℕ) (x : Out O) → k ≡ x.seat → outs_to k (x ∷ []) ≡ x.out ∷ []
  outs_here k x e = ap (λ b. if b then x.out ∷ [] else []) (eq-eqb k x.seat e)

  outs_else : (k : ℕ) (xs : List (Out O)) (x : Out O) → k ≢ x.seat → outs_to k (xs ++ x ∷ []) ≡ outs_to k xs
  outs_else k xs x n = outs_to-append k xs (x ∷ []) ∙ ap (λ l. outs_to k xs ++ l) (ap (λ b. if b then x.out ∷ [] else []) (ne_eqb k x.seat n)) ∙ append-nil (outs_to k xs)

module _ {J O : Type 0} where
  pub ran_alike : (a b c : SeatQueues J O) → ran_in b ≡ ran_in a → ran_in c ≡ ran_in b → ran_in c ≡ ran_in a
  ran_alike a b c h k = k ∙ h

  pub gave_nothing : (a : SeatQueues J O) → Gave a a []
  gave_nothing a n less = sym (append-nil (given_in a n))

  pub gave_more : (a b c : SeatQueues J O) (outs : List (Out O)) (o : Out O) → IsSameQueues a b → Gave a b outs → Gave b c (o ∷ []) → Gave a c (outs ++ o ∷ [])
  gave_more a b c outs o same h e n less = e n (subst (λ m. n < m) (sym (same_seats a b same)) less) ∙ ap (λ g. g ++ outs_to n (o ∷ [])) (h n less)
      ∙ append_assoc (given_in a n) (outs_to n outs) (outs_to n (o ∷ [])) ∙ ap (λ g. given_in a n ++ g) (sym (outs_to-append n outs (o ∷ [])))

module _ {J O S : Type 0} (gives : S → Stimulus J → Fate → List (Out O)) (after : S → Stimulus J → Fate → S) where
  pub history_snoc : (s : S) (h : List (Item J O)) (t : S) (e : Item J O) → IsHistory gives after s h t → e.outs ≡ gives t e.stimulus e.fate → IsHistory gives after s (h ++ e ∷ []) (after t e.stimulus e.fate)
  history_snoc s [] t e at outs = (outs ∙ ap (λ u. gives u e.stimulus e.fate) at, ap (λ u. after u e.stimulus e.fate) at)
  history_snoc s (x ∷ xs) t e is outs = (is.0, history_snoc (after s x.stimulus x.fate) xs t e is.1 outs)

module _ {J O : Type 0} where
  pub answers-append : (k : ℕ) (xs ys : List (Item J O)) → answers_in k (xs ++ ys) ≡ answers_in k xs ++ answers_in k ys
  answers-append k [] ys = refl
  answers-append k (x ∷ xs) ys = ap (λ l. outs_to k x.outs ++ l) (answers-append k xs ys) ∙ sym (append_assoc (outs_to k x.outs) (answers_in k xs) (answers_in k ys))

  pub answers_snoc : (k : ℕ) (xs : List (Item J O)) (e : Item J O) → answers_in k (xs ++ e ∷ []) ≡ answers_in k xs ++ outs_to k e.outs
  answers_snoc k xs e = answers-append k xs (e ∷ []) ∙ ap (λ l. answers_in k xs ++ l) (append-nil (outs_to k e.outs))

  pub asked-append : (xs ys : List (Item J O)) → asked (xs ++ ys) ≡ asked xs ++ asked ys
  asked-append [] ys = refl
  asked-append (x ∷ xs) ys = ap (λ l. asked_by x.stimulus ++ l) (asked-append xs ys) ∙ sym (append_assoc (asked_by x.stimulus) (asked xs) (asked ys))

  pub asked_snoc : (xs : List (Item J O)) (e : Item J O) → asked (xs ++ e ∷ []) ≡ asked xs ++ asked_by e.stimulus
  asked_snoc xs e = asked-append xs (e ∷ []) ∙ ap (λ l. asked xs ++ l) (append-nil (asked_by e.stimulus))

module _ {J : Type 0} where
  pub no_end : (xs : List J) → has_end (map Some xs) ≡ false
  no_end [] = refl
  no_end (x ∷ xs) = no_end xs

  pub no_end_of : (xs : List J) (l : List (Option J)) → l ≡ map Some xs → has_end l ≡ false
  no_end_of xs l e = ap has_end e ∙ no_end xs

  pub map_some_snoc : (xs : List J) (x : J) → map Some xs ++ Some x ∷ [] ≡ map Some (xs ++ x ∷ [])
  map_some_snoc [] x = refl
  map_some_snoc (y ∷ ys) x = ap (λ l. Some y ∷ l) (map_some_snoc ys x)

module _ {J O : Type 0} where
  -- a new seat is one of the keeper that has more seats
  pub seat_stays : (a b : Keeper J O) (n : ℕ) (s : Seat J O) → (IsSeatOf a s → IsSeatOf b s) → slots_in b ≡ slots_in a → IsNewSeat a n s → IsNewSeat b n s
  seat_stays a b n s stays slots h = stays_new a.queues b.queues n s stays slots h

  -- a seat is one of the keeper that did something
  pub seat_kept : (a b : Keeper J O) (s : Seat J O) → IsSameHub a b → IsSeatOf a s → IsSeatOf b s
  seat_kept a b s same h = kept a.queues b.queues s same h

  -- a seat that did something is still one of the keeper
  pub seat_same : (k : Keeper J O) (a b : Seat J O) → IsSameSeat a b → IsSeatOf k a → IsSeatOf k b
  seat_same k a b same h = same_seat k.queues a b same h

  -- its number is one of the keeper's seats
  pub seat_within : (k : Keeper J O) (s : Seat J O) → IsSeatOf k s → number_of s < seats_of k
  seat_within k s h = within k.queues s h

  -- it has as many seats as before
  pub same_length : (a b : Keeper J O) → IsSameHub a b → seats_of b ≡ seats_of a
  same_length a b same = same_seats a.queues b.queues same
