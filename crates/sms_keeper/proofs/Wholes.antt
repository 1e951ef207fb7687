-- A seat whose end mark was popped has had all its jobs run.
use Rattle.std.proofs.Common.{◌≡◌, ◌==◌, ◌<◌, ℕ, Bool, true, false, true≢false, ◌||◌, if◌then◌else◌, List, [], ◌∷◌, ◌++◌, length, map, drop, sym, refl, ap, ◌∙◌, subst, Option, Some, None, arith}
use Rattle.sms_seats.specs.declared.jobs.Letter.{Letter}
use Rattle.sms_keeper.specs.declared.machine.Item.{Item}
use Rattle.sms_keeper.specs.declared.keeper.Keeper.{Keeper}
use Rattle.sms_seats.specs.Jobs.{of, is_end, has_end, jobs_among}
use Rattle.sms_keeper.specs.History.{for_seat, job_of, work, asked, jobs_of, answers_in}
use Rattle.sms_keeper.specs.Keeping.{ran_by, IsClosed, IsStretch}
use Rattle.sms_keeper.specs.Seating.{IsNewKeeper, IsAll}
use Rattle.sms_keeper.proofs.Histories.{same_length}

module _ {J : Type 0} where
  chosen : Bool → Option J → List J → List J
  chosen b (Some x) r = if b then x ∷ r else r
  chosen b None r = r

  some_step : (b : Bool) (o : Option J) (t : List (Option J)) (r : List J) → jobs_among t ≡ r → jobs_among (if b then o ∷ t else t) ≡ chosen b o r
  unfolding chosen
  some_step true (Some x) t r e = ap (λ l. x ∷ l) e
  some_step true None t r e = e
  some_step false (Some x) t r e = e
  some_step false None t r e = e

  work_step : (n s : ℕ) (o : Option J) (w : List (ℕ × J)) → for_seat n (job_of s o ++ w) ≡ chosen (n == s) o (for_seat n w)
  unfolding chosen
  work_step n s (Some x) w = refl
  work_step n s None w = refl

  pub somes_of : (n : ℕ) (xs : List (Letter J)) → jobs_among (of n xs) ≡ for_seat n (work xs)
  somes_of n [] = refl
  somes_of n (x ∷ xs) = some_step (n == x.seat) x.job (of n xs) (for_seat n (work xs)) (somes_of n xs) ∙ sym (work_step n x.seat x.job (work xs))

  -- all that a seat put was run, once all of it was popped
  pub all_run : (n : ℕ) (put : List (Option J)) (ran : List (Letter J)) → put ≡ of n ran → for_seat n (work ran) ≡ jobs_among put
  all_run n put ran popped = sym (somes_of n ran) ∙ ap jobs_among (sym popped)

  first_or : Option J → List (Option J) → Option J
  first_or d [] = d
  first_or d (x ∷ xs) = x

  some_head : (m : Option J) (j : J) (ms : List (Option J)) → m ≡ Some j → has_end (m ∷ ms) ≡ true → has_end ms ≡ true
  some_head m j ms e h = ap (λ x. is_end x || has_end ms) (sym e) ∙ h

  some_heads : (m : Option J) (j : J) (ms : List (Option J)) → m ≡ Some j → jobs_among (m ∷ ms) ≡ j ∷ jobs_among ms
  some_heads m j ms e = ap (λ x. jobs_among (x ∷ ms)) e

  none_heads : (m : Option J) → m ≡ None → jobs_among (m ∷ []) ≡ []
  none_heads m e = ap (λ x. jobs_among (x ∷ [])) e

  ended : (js : List J) (mine rest : List (Option J)) → map Some js ++ None ∷ [] ≡ mine ++ rest → has_end mine ≡ true → jobs_among mine ≡ js
  unfolding first_or
  ended js [] rest e h = absurd (true≢false (sym h))
  ended [] (m ∷ []) rest e h = none_heads m (sym (ap (first_or None) e))
  ended [] (m ∷ y ∷ ys) rest e h = absurd (let l : 1 ≡ length (m ∷ y ∷ ys ++ rest) = ap length e in omega arith)
  ended (j ∷ js) (m ∷ ms) rest e h = let is : m ≡ Some j = sym (ap (first_or None) e) in some_heads m j ms is ∙ ap (λ l. j ∷ l) (ended js ms rest (ap (drop 1) e) (some_head m j ms is h))

  -- all jobs of a seat whose end mark was popped were run
  pub all_ran : (n : ℕ) (js : List J) (put : List (Option J)) (ran : List (Letter J)) (rest : List (Option J)) → put ≡ map Some js ++ None ∷ [] → put ≡ of n ran ++ rest → has_end (of n ran) ≡ true → for_seat n (work ran) ≡ js
  all_ran n js put ran rest whole parts end = sym (somes_of n ran) ∙ ended js (of n ran) rest (sym whole ∙ parts) end

module _ {J O : Type 0} (reads : ℕ → Type 0) where
  pub all_did : (k m : Keeper J O) (h : List (Item J O)) (seats : ℕ) → IsNewKeeper seats k → IsStretch reads k h m → IsClosed m → IsAll m h
  all_did k m h seats new did closed = record {
    ran = did.ran ∙ ap (λ l. work l ++ asked h) new.ran;
    given = λ n less. did.given n (subst (λ x. n < x) (same_length k m did.hub) less) ∙ ap (λ l. l ++ answers_in n h) (new.given n);
    closed = closed;
  }

module _ {J O : Type 0} where
  pub none_ran : (m : Keeper J O) (h : List (Item J O)) (n : ℕ) → IsAll m h → of n (ran_by m) ≡ [] → jobs_of n h ≡ []
  none_ran m h n all e = ap (for_seat n) (sym all.ran) ∙ sym (somes_of n (ran_by m)) ∙ ap jobs_among e
