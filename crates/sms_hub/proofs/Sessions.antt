-- The sessions of a hub, one more of them, and what the keeper did put together with what they did.
use Rattle.std.proofs.Common.{◌≡◌, ◌+◌, ◌<◌, ◌≤◌, ℕ, zero, suc, true, List, [], ◌∷◌, ◌++◌, length, sym, refl, ap, ◌∙◌, subst, append_assoc, append-nil, length-append, arith, Option}
use Rattle.std.proofs.lemmas.List.{length-map}
use Rattle.std.specs.declared.alloc.Global.{Global}
use Rattle.std.specs.Prelude.{Vec}
use Rattle.sms_keeper.specs.declared.keeper.Keeper.{Keeper}
use Rattle.sms_keeper.specs.declared.machine.Fate.{Fate}
use Rattle.sms_keeper.specs.declared.machine.Item.{Item}
use Rattle.sms_keeper.specs.declared.machine.Stimulus.{Stimulus}
use Rattle.sms_keeper.specs.declared.outs.Out.{Out}
use Rattle.sms_seats.specs.declared.seat.Seat.{Seat}
use Rattle.sms_seats.specs.Jobs.{of, has_end}
use Rattle.sms_keeper.specs.History.{IsRising, answers_in, each_seat, for_seat, jobs_of, work}
use Rattle.sms_keeper.specs.Keeping.{given_by, last_tick, ran_by, seats_of, IsClosed, IsSameHub}
use Rattle.sms_hub.specs.Running.{SessionThread, SessionsRan, AreAt, jobs_for, lists_of}
use Rattle.sms_hub.specs.Lasting.{Ran}
use Rattle.sms_seats.specs.Seats.{number_of}
use Rattle.sms_keeper.specs.Seating.{IsAll, IsNewKeeper, IsSeatOf, IsUnchanged}
use Rattle.sms_keeper.proofs.Histories.{same_length, seat_kept}

module _ {A : Type 0} where
  pub each_more : (n m : ℕ) (f : ℕ → A) (l : List A) (x : A) → l ≡ each_seat n f → x ≡ f n → m ≡ suc n → l ++ x ∷ [] ≡ each_seat m f
  each_more n m f l x e h is = ap (λ y. l ++ y ∷ []) h ∙ ap (λ k. k ++ f n ∷ []) e ∙ ap (λ k. each_seat k f) (sym is)

  each_length : (n : ℕ) (f : ℕ → A) → length (each_seat n f) ≡ n
  each_length zero f = refl
  each_length (suc n) f = let h = each_length n f in let k = length-append (each_seat n f) (f n ∷ []) in omega arith

  pub each_same : (n : ℕ) (f g : ℕ → A) → ((k : ℕ) → k < n → f k ≡ g k) → each_seat n f ≡ each_seat n g
  each_same zero f g h = refl
  each_same (suc n) f g h = ap (λ l. l ++ f n ∷ []) (each_same n f g (λ k less. h k (omega arith))) ∙ ap (λ x. each_seat n g ++ x ∷ []) (h n (omega arith))

  pub each_next : (n m : ℕ) (f : ℕ → A) (x : A) (xs all : List A) → m ≡ suc n → f n ≡ x → each_seat n f ++ x ∷ xs ≡ all → each_seat m f ++ xs ≡ all
  each_next n m f x xs all is e h = ap (λ k. each_seat k f ++ xs) is ∙ append_assoc (each_seat n f) (f n ∷ []) xs ∙ ap (λ y. each_seat n f ++ y ∷ xs) e ∙ h

  pub each_last : (n m : ℕ) (f : ℕ → A) (xs all : List A) → xs ≡ [] → m ≡ n → each_seat n f ++ xs ≡ all → each_seat m f ≡ all
  each_last n m f xs all none is h = ap (λ k. each_seat k f) is ∙ sym (append-nil (each_seat n f)) ∙ ap (λ y. each_seat n f ++ y) (sym none) ∙ h

module _ {J O : Type 0} where
  pub unchanged_same : (a : Keeper J O) → IsUnchanged a a
  unchanged_same a = record { hub = (refl, refl); ran = refl; given = λ s. refl; last = refl }

  pub unchanged_trans : (a b c : Keeper J O) → IsUnchanged a b → IsUnchanged b c → IsUnchanged a c
  unchanged_trans a b c h k = record { hub = (k.hub.0 ∙ h.hub.0, k.hub.1 ∙ h.hub.1); ran = k.ran ∙ h.ran; given = λ s. k.given s ∙ h.given s; last = k.last ∙ h.last }

  -- the first of the threads, and the others
  pub at_first : (k : Keeper J O) (n : ℕ) (t : SessionThread J O) (l rest : List (SessionThread J O)) → l ≡ t ∷ rest → AreAt k n l → IsSeatOf k t.promise.seat.value × (number_of t.promise.seat.value ≡ n)
  at_first k n t l rest e h = let P : List (SessionThread J O) → Type 0 = λ x. AreAt k n x in let x : AreAt k n (t ∷ rest) = subst P e h in (x.0, x.1)

  pub at_next : (k : Keeper J O) (n m : ℕ) (t : SessionThread J O) (l rest : List (SessionThread J O)) → l ≡ t ∷ rest → m ≡ n + 1 → AreAt k n l → AreAt k m rest
  at_next k n m t l rest e is h = let P : List (SessionThread J O) → Type 0 = λ x. AreAt k n x in let Q : ℕ → Type 0 = λ x. AreAt k x rest in let x : AreAt k n (t ∷ rest) = subst P e h in subst Q (sym is) x.2

  -- the jobs that ran at a seat that has closed
  pub jobs_next : (a b : Keeper J O) (n s : ℕ) (js : List J) → IsUnchanged a b → s ≡ n → IsClosed a → n < seats_of a
      → (has_end (of s (ran_by b)) ≡ true → for_seat s (work (ran_by b)) ≡ js) → for_seat n (work (ran_by a)) ≡ js
  jobs_next a b n s js same is closed less h = let P : ℕ → Type 0 = λ k. has_end (of k (ran_by b)) ≡ true in
      ap (λ l. for_seat n (work l)) (sym same.ran) ∙ ap (λ k. for_seat k (work (ran_by b))) (sym is) ∙ h (subst P (sym is) (ap (λ l. has_end (of n l)) same.ran ∙ closed n less))

  pub keeper_more : (a b : Keeper J O) (n m : ℕ) → (IsNewKeeper (seats_of a) a → IsNewKeeper (seats_of a + 1) b) → IsNewKeeper n a → m ≡ n + 1 → IsNewKeeper m b
  keeper_more a b n m more h e = subst (λ x. IsNewKeeper x b) (ap (λ x. x + 1) h.seats ∙ sym e) (more (subst (λ x. IsNewKeeper x a) (sym h.seats) h))

  pub at_more : (a b : Keeper J O) (n : ℕ) (ts : List (SessionThread J O)) (t : SessionThread J O) → ((s : Seat J O) → IsSeatOf a s → IsSeatOf b s)
      → AreAt a n ts → IsSeatOf b t.promise.seat.value → number_of t.promise.seat.value ≡ n + length ts → AreAt b n (ts ++ t ∷ [])
  at_more a b n [] t stays h is at = (is, omega arith, tt)
  at_more a b n (x ∷ xs) t stays h is at = (stays x.promise.seat.value h.0, h.1, at_more a b (n + 1) xs t stays h.2 is (omega arith))

  pub at_kept : (a b : Keeper J O) (n : ℕ) (ts : List (SessionThread J O)) → IsSameHub a b → AreAt a n ts → AreAt b n ts
  at_kept a b n [] same h = tt
  at_kept a b n (x ∷ xs) same h = (seat_kept a b x.promise.seat.value same h.0, h.1, at_kept a b (n + 1) xs same h.2)

  pub seats_kept : (a b : Keeper J O) → IsSameHub a b → seats_of b ≡ seats_of a
  seats_kept a b same = same_length a b same

  pub closed_kept : (a b : Keeper J O) → IsUnchanged a b → IsClosed a → IsClosed b
  closed_kept a b same h n less = ap (λ l. has_end (of n l)) same.ran ∙ h n (subst (λ m. n < m) (seats_kept a b same.hub) less)

  -- the jobs that ran are those of the history
  pub jobs_reported : (a b : Keeper J O) (h : List (Item J O)) (n : ℕ) (js : List (List J)) → IsUnchanged a b → IsAll a h
      → each_seat n (λ k. for_seat k (work (ran_by b))) ≡ js → each_seat n (λ k. jobs_of k h) ≡ js
  jobs_reported a b h n js same all e = ap (λ w. each_seat n (λ k. for_seat k w)) (sym (ap work same.ran ∙ all.ran)) ∙ e

  -- the answers that were given are those of the history
  pub answers_reported : (a b : Keeper J O) (h : List (Item J O)) (n : ℕ) (os : List (List O)) → IsUnchanged a b → IsAll a h → n ≡ seats_of a
      → os ≡ each_seat n (given_by b) → os ≡ each_seat n (λ k. answers_in k h)
  answers_reported a b h n os same all count e = e ∙ each_same n (given_by b) (λ k. answers_in k h) (λ k less. same.given k ∙ all.given k (subst (λ m. k < m) count less))

module _ {O : Type 0} where
  -- there are as many vectors of answers as seats
  pub answer_count : (os : List (Vec O Global)) (n m : ℕ) (f : ℕ → List O) → lists_of os ≡ each_seat n f → n ≡ m → length os ≡ m
  answer_count os n m f e is = sym (length-map os (λ (v : Vec O Global). v.items)) ∙ ap length e ∙ each_length n f ∙ is

module _ {J O S : Type 0} (reads : ℕ → Type 0) (gives : S → Stimulus J → Fate → List (Out O)) (after : S → Stimulus J → Fate → S) where
  -- what a keeper ran, put together with what the threads of its sessions did
  pub sessions_ran : (honest : Type 0) (before behind : S → Type 0) (told tells : List (Item J O) → Type 0) (a b : Keeper J O) (seats : ℕ) (ts : List (SessionThread J O)) (os : List (Vec O Global))
      → IsNewKeeper seats a → (ran : Ran reads gives after honest before behind told tells a b)
      → each_seat (length ts) (λ n. jobs_of n ran.items) ≡ jobs_for ts → ((n : ℕ) → length ts ≤ n → jobs_of n ran.items ≡ []) → lists_of os ≡ each_seat (length ts) (λ n. answers_in n ran.items)
      → SessionsRan reads gives after honest before behind told tells (jobs_for ts) (lists_of os)
  sessions_ran honest before behind told tells a b seats ts os new ran jobs others answers =
      let many : length (jobs_for ts) ≡ length ts = length-map ts (λ (t : SessionThread J O). t.promise.jobs.value.items) in record {
        items = ran.items;
        led = ran.led;
        ticks = (last_tick b, subst (λ (t : Option ℕ). IsRising reads t ran.items (last_tick b)) new.last ran.did.ticks);
        jobs = ap (λ n. each_seat n (λ k. jobs_of k ran.items)) many ∙ jobs;
        others = λ n past. others n (subst (λ m. m ≤ n) many past);
        answered = answers ∙ ap (λ n. each_seat n (λ k. answers_in k ran.items)) (sym many);
        recorded = ran.recorded;
      }
