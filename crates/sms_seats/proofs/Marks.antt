-- End marks: one that was popped stays so, and nothing is put behind one.
use Rattle.std.proofs.Common.{◌≡◌, ◌≢◌, ℕ, zero, suc, Bool, true, false, true≢false, not, ◌||◌, List, [], ◌∷◌, ◌++◌, set, sym, refl, ap, ◌∙◌, ⊎_elim, append-nil, Option, Some, None, Result, Ok, Err, MatchResult, slice_get}
use Rattle.std.proofs.lemmas.Bool.{or_left}
use Rattle.std.proofs.lemmas.Bool.Decides.{eqb_tells}
use Rattle.std.specs.Option.{is_some}
use Rattle.sms_seats.specs.declared.jobs.JobsView.{JobsView}
use Rattle.sms_seats.specs.declared.jobs.Letter.{Letter}
use Rattle.sms_seats.specs.Jobs.{of, is_end, has_end, ends_last, seat_view}
use Rattle.sms_seats.proofs.JobsKeep.{of-append, of_here}

module _ {A : Type 0} where
  slice_get-set_other : (xs : List A) (i k : ℕ) (y : A) → k ≢ i → slice_get (set xs i y) k ≡ slice_get xs k
  slice_get-set_other [] i k y n = refl
  slice_get-set_other (x ∷ xs) zero zero y n = absurd (n refl)
  slice_get-set_other (x ∷ xs) zero (suc k) y n = refl
  slice_get-set_other (x ∷ xs) (suc i) zero y n = refl
  slice_get-set_other (x ∷ xs) (suc i) (suc k) y n = slice_get-set_other xs i k y (λ e. n (ap suc e))

or_assoc : (a b c : Bool) → (a || (b || c)) ≡ ((a || b) || c)
or_assoc true b c = refl
or_assoc false b c = refl

or_right : (a : Bool) → (a || true) ≡ true
or_right true = refl
or_right false = refl

module _ {J : Type 0} where
  pub end_of_none : (o : Option J) → is_some o ≡ not true → is_end o ≡ true
  end_of_none (Some x) e = absurd (true≢false e)
  end_of_none None e = refl

  has_end-append : (xs ys : List (Option J)) → has_end (xs ++ ys) ≡ (has_end xs || has_end ys)
  has_end-append [] ys = refl
  has_end-append (x ∷ xs) ys = ap (λ b. is_end x || b) (has_end-append xs ys) ∙ or_assoc (is_end x) (has_end xs) (has_end ys)

  -- a job is no end mark
  pub open_more : (xs ys : List (Option J)) (j : J) → has_end xs ≡ false → ys ≡ xs ++ Some j ∷ [] → has_end ys ≡ false
  open_more xs ys j h e = ap has_end e ∙ has_end-append xs (Some j ∷ []) ∙ ap (λ b. b || false) h

  -- an end mark that was there stays
  pub stays : (closed : List Bool) (ran : List (Letter J)) (x : Letter J) → ((k : ℕ) → slice_get closed k ≡ Some true → has_end (of k ran) ≡ true)
      → (k : ℕ) → slice_get closed k ≡ Some true → has_end (of k (ran ++ x ∷ [])) ≡ true
  stays closed ran x h k e = ap has_end (of-append k ran (x ∷ [])) ∙ has_end-append (of k ran) (of k (x ∷ [])) ∙ or_left _ _ (h k e)

  -- an end mark came
  pub closes : (closed : List Bool) (ran : List (Letter J)) (x : Letter J) → is_end x.job ≡ true → ((k : ℕ) → slice_get closed k ≡ Some true → has_end (of k ran) ≡ true)
      → (k : ℕ) → slice_get (set closed x.seat true) k ≡ Some true → has_end (of k (ran ++ x ∷ [])) ≡ true
  closes closed ran x end h k e = ⊎_elim
      (λ here. ap has_end (of-append k ran (x ∷ []) ∙ ap (λ l. of k ran ++ l) (of_here k x here.1)) ∙ has_end-append (of k ran) (x.job ∷ []) ∙ ap (λ b. has_end (of k ran) || (b || false)) end ∙ or_right (has_end (of k ran)))
      (λ no. stays closed ran x h k (sym (slice_get-set_other closed x.seat k true no.1) ∙ e))
      (eqb_tells k x.seat)

  -- where an end mark is last, nothing is behind a part that has it
  nothing_behind : (xs rest : List (Option J)) → ends_last (xs ++ rest) ≡ true → has_end xs ≡ true → rest ≡ []
  nothing_behind [] rest last end = absurd (true≢false (sym end))
  nothing_behind (Some j ∷ xs) rest last end = nothing_behind xs rest last end
  nothing_behind (None ∷ []) [] last end = refl
  nothing_behind (None ∷ []) (x ∷ rest) last end = absurd (true≢false (sym last))
  nothing_behind (None ∷ x ∷ xs) rest last end = absurd (true≢false (sym last))

  -- all that a seat put was popped, once its end mark was
  pub all_popped : (n : ℕ) (put : List (Option J)) (ran : List (Letter J)) (rest : List (Option J)) → ends_last put ≡ true → put ≡ of n ran ++ rest → has_end (of n ran) ≡ true → put ≡ of n ran
  all_popped n put ran rest last parts end = parts ∙ ap (λ l. of n ran ++ l) (nothing_behind (of n ran) rest (ap ends_last (sym parts) ∙ last) end) ∙ append-nil (of n ran)

  last_more : (xs : List (Option J)) (x : Option J) → has_end xs ≡ false → ends_last (xs ++ x ∷ []) ≡ true
  last_more [] (Some j) none = refl
  last_more [] None none = refl
  last_more (Some j ∷ xs) x none = last_more xs x none
  last_more (None ∷ xs) x none = absurd (true≢false none)

  -- what is put where no end mark is there is put last
  stays_last : (xs ys : List (Option J)) (x : Option J) → has_end xs ≡ false → ys ≡ xs ++ x ∷ [] → ends_last ys ≡ true
  stays_last xs ys x none e = ap ends_last e ∙ last_more xs x none

  -- whether it was put or handed back
  pub still_last : {A : Type 0} (r : Result A (Letter J)) (v w : JobsView J) (x : Letter J) → has_end v.put ≡ false → ends_last v.put ≡ true
      → MatchResult r (λ _. w ≡ seat_view x.seat (v.put ++ x.job ∷ [])) (λ back. (back ≡ x) × (w ≡ v)) → ends_last w.put ≡ true
  still_last (Ok u) v w x none last h = stays_last v.put w.put x.job none (ap (λ (u : JobsView J). u.put) h)
  still_last (Err back) v w x none last h = ap (λ (u : JobsView J). ends_last u.put) h.1 ∙ last
