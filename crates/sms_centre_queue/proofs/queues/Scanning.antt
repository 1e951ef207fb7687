-- What is noted on a way over queues.
use Rattle.std.proofs.Common.{◌≡◌, ◌⊎◌, ℕ, List, [], ◌∷◌, Bool, true, false, nat_eq, Option, Some, None, refl, sym, ◌∙◌, ap, subst, inl, inr, ⊎_elim, eqb-true}
use Rattle.std.specs.Map.{lookup}
use Rattle.std.specs.Prelude.{filter}
use Rattle.std.proofs.lemmas.Bool.{cases_Bool, cases_eq, cond-true, cond-false}
use Rattle.sms_base.specs.Among.{Among}
use Rattle.sms_rows.specs.table.Table.{AllAbove, Rises, put, row_at}
use Rattle.sms_rows.proofs.table.Tables.{among_found, among_put, found_among, found_key, put_among, rises_put}
use Rattle.sms_centre_rows.proofs.waiting.Alike.{rises_alike}
use Rattle.sms_centre_queue.specs.declared.queues.concern.ConcernedHandset.{ConcernedHandset}
use Rattle.sms_centre_queue.specs.declared.queues.concern.Concern.{Concern}
use Rattle.sms_centre_queue.specs.queues.Keys.{stop_key}
use Rattle.sms_centre_queue.specs.queues.Queues.{DeliveryQueuesDraftOf, at}
use Rattle.sms_centre_queue.specs.queues.Stops.{all_noted, noted, stop_if}

-- ---- rows with the same members

same_at : {A : Type 0} (key : A → ℕ) (xs ys : List A) (k : ℕ) (o p : Option A) → Rises key xs → Rises key ys → ((x : A) → Among x xs → Among x ys) → ((y : A) → Among y ys → Among y xs)
    → row_at key k xs ≡ o → row_at key k ys ≡ p → o ≡ p
same_at key xs ys k None None rx ry f g a b = refl
same_at {A} key xs ys k (Some x) p rx ry f g a b =
    sym (subst (λ (n : ℕ). row_at key n ys ≡ Some x) (found_key key k x xs a) (among_found key x ys ry (f x (found_among key k x xs a)))) ∙ b
same_at {A} key xs ys k None (Some y) rx ry f g a b =
    sym a ∙ subst (λ (n : ℕ). row_at key n xs ≡ Some y) (found_key key k y ys b) (among_found key y xs rx (g y (found_among key k y ys b)))

pub same_rows : {A : Type 0} (key : A → ℕ) (xs ys : List A) → Rises key xs → Rises key ys → ((x : A) → Among x xs → Among x ys) → ((y : A) → Among y ys → Among y xs) → xs ≡ ys
same_rows key xs ys rx ry f g = rises_alike key xs ys rx ry (λ k. same_at key xs ys k (row_at key k xs) (row_at key k ys) rx ry f g refl refl)

-- ---- those that pass a test

module _ {A : Type 0} (test : A → Bool) where
  pub among_filter : (x : A) (xs : List A) → Among x (filter test xs) → Among x xs × (test x ≡ true)
  among_filter x [] m = elim m [ ]
  among_filter x (y ∷ ys) m = ⊎_elim
      (λ (t : test y ≡ true). ⊎_elim
      (λ (e : x ≡ y). (inl e, ap test e ∙ t))
      (λ (r : Among x (filter test ys)). let q = among_filter x ys r in (inr q.0, q.1))
      (subst (λ (l : List A). Among x l) (cond-true (test y) (y ∷ filter test ys) (filter test ys) t) m))
      (λ (t : test y ≡ false).
      let q = among_filter x ys (subst (λ (l : List A). Among x l) (cond-false (test y) (y ∷ filter test ys) (filter test ys) t) m) in (inr q.0, q.1))
      (cases_Bool (test y))

  pub filter_among : (x : A) (xs : List A) → Among x xs → test x ≡ true → Among x (filter test xs)
  filter_among x [] m t = elim m [ ]
  filter_among x (y ∷ ys) m t = ⊎_elim
      (λ (e : x ≡ y). subst (λ (l : List A). Among x l) (sym (cond-true (test y) (y ∷ filter test ys) (filter test ys) (sym (ap test e) ∙ t))) (inl e))
      (λ (r : Among x ys). ⊎_elim
      (λ (u : test y ≡ true). subst (λ (l : List A). Among x l) (sym (cond-true (test y) (y ∷ filter test ys) (filter test ys) u)) (inr (filter_among x ys r t)))
      (λ (u : test y ≡ false). subst (λ (l : List A). Among x l) (sym (cond-false (test y) (y ∷ filter test ys) (filter test ys) u)) (filter_among x ys r t))
      (cases_Bool (test y)))
      m

  above_filter : (key : A → ℕ) (n : ℕ) (xs : List A) → AllAbove key n xs → AllAbove key n (filter test xs)
  above_filter key n [] a = tt
  above_filter key n (y ∷ ys) a = ⊎_elim
      (λ (t : test y ≡ true). subst (λ (l : List A). AllAbove key n l) (sym (cond-true (test y) (y ∷ filter test ys) (filter test ys) t)) (a.0, above_filter key n ys a.1))
      (λ (t : test y ≡ false). subst (λ (l : List A). AllAbove key n l) (sym (cond-false (test y) (y ∷ filter test ys) (filter test ys) t)) (above_filter key n ys a.1))
      (cases_Bool (test y))

  pub rises_filter : (key : A → ℕ) (xs : List A) → Rises key xs → Rises key (filter test xs)
  rises_filter key [] r = tt
  rises_filter key (y ∷ ys) r = ⊎_elim
      (λ (t : test y ≡ true). subst (λ (l : List A). Rises key l) (sym (cond-true (test y) (y ∷ filter test ys) (filter test ys) t)) (above_filter key (key y) ys r.0, rises_filter key ys r.1))
      (λ (t : test y ≡ false). subst (λ (l : List A). Rises key l) (sym (cond-false (test y) (y ∷ filter test ys) (filter test ys) t)) (rises_filter key ys r.1))
      (cases_Bool (test y))

-- ---- what is noted

module _ (purpose : Concern) (p : DeliveryQueuesDraftOf) where
  -- it is the stop at a queue
  abbrev Seen : ConcernedHandset → Type 0
  Seen x = (key : ℕ) × (stop_if purpose (at key p) ≡ Some x)

  -- no other stop is in its place
  abbrev Alone : ConcernedHandset → Type 0
  Alone x = (s : ConcernedHandset) → Seen s → stop_key x ≡ stop_key s → x ≡ s

  preserved_once : (x : ConcernedHandset) (o : Option ConcernedHandset) (key : ℕ) (stops : List ConcernedHandset) → Alone x → stop_if purpose (at key p) ≡ o → Among x stops → Among x (noted o stops)
  preserved_once x None key stops alone is m = m
  preserved_once x (Some s) key stops alone is m = ⊎_elim
      (λ (e : stop_key x ≡ stop_key s). put_among stop_key x s stops (inl (alone s (key, is) e)))
      (λ (e : stop_key x ≡ stop_key s → ⊥). put_among stop_key x s stops (inr (m, e)))
      (cases_eq (stop_key x) (stop_key s))

never_empty : (s : ConcernedHandset) (stops : List ConcernedHandset) → put stop_key s stops ≡ [] → ⊥
never_empty s stops e = elim (subst (λ (l : List ConcernedHandset). Among s l) e (put_among stop_key s s stops (inl refl))) [ ]

noted_empty : (o : Option ConcernedHandset) (stops : List ConcernedHandset) → noted o stops ≡ [] → (o ≡ None) × (stops ≡ [])
noted_empty None stops e = (refl, e)
noted_empty (Some s) stops e = absurd (never_empty s stops e)

module _ {A : Type 0} (purpose : Concern) (p : DeliveryQueuesDraftOf) where
  pub rises_noted : (es : List (ℕ × A)) (stops : List ConcernedHandset) → Rises stop_key stops → Rises stop_key (all_noted purpose p es stops)
  rises_noted [] stops r = r
  rises_noted (e ∷ es) stops r = rises_noted es (noted (stop_if purpose (at e.0 p)) stops) (one (stop_if purpose (at e.0 p))) where
    one : (o : Option ConcernedHandset) → Rises stop_key (noted o stops)
    one None = r
    one (Some s) = rises_put stop_key s stops r

  pub seen_noted : (x : ConcernedHandset) (es : List (ℕ × A)) (stops : List ConcernedHandset) → Among x (all_noted purpose p es stops) → Among x stops ⊎ Seen purpose p x
  seen_noted x [] stops m = inl m
  seen_noted x (e ∷ es) stops m = ⊎_elim
      (λ (n : Among x (noted (stop_if purpose (at e.0 p)) stops)). one (stop_if purpose (at e.0 p)) refl n)
      (λ (s : Seen purpose p x). inr s)
      (seen_noted x es (noted (stop_if purpose (at e.0 p)) stops) m)
    where
      one : (o : Option ConcernedHandset) → stop_if purpose (at e.0 p) ≡ o → Among x (noted o stops) → Among x stops ⊎ Seen purpose p x
      one None is n = inl n
      one (Some s) is n = ⊎_elim
          (λ (q : x ≡ s). let there : Seen purpose p x = (e.0, is ∙ ap (λ (y : ConcernedHandset). Some y) (sym q)) in inr there)
          (λ (k : Among x stops × ¬ (stop_key x ≡ stop_key s)). inl k.0)
          (among_put stop_key x s stops n)

  pub preserved_noted : (x : ConcernedHandset) (es : List (ℕ × A)) (stops : List ConcernedHandset) → Alone purpose p x → Among x stops → Among x (all_noted purpose p es stops)
  preserved_noted x [] stops alone m = m
  preserved_noted x (e ∷ es) stops alone m =
      preserved_noted x es (noted (stop_if purpose (at e.0 p)) stops) alone (preserved_once purpose p x (stop_if purpose (at e.0 p)) e.0 stops alone refl m)

  pub noted_there : (x : ConcernedHandset) (key : ℕ) (v : A) (es : List (ℕ × A)) (stops : List ConcernedHandset) → Alone purpose p x → lookup (nat_eq key) es ≡ Some v → stop_if purpose (at key p) ≡ Some x
      → Among x (all_noted purpose p es stops)
  noted_there x key v [] stops alone found is = absurd cc
  noted_there x key v (e ∷ es) stops alone found is = ⊎_elim
      (λ (t : nat_eq key e.0 ≡ true).
      let here : stop_if purpose (at e.0 p) ≡ Some x = subst (λ (k : ℕ). stop_if purpose (at k p) ≡ Some x) (eqb-true key e.0 t) is in
      preserved_noted x es (noted (stop_if purpose (at e.0 p)) stops) alone
      (subst (λ (o : Option ConcernedHandset). Among x (noted o stops)) (sym here) (put_among stop_key x x stops (inl refl))))
      (λ (t : nat_eq key e.0 ≡ false).
      noted_there x key v es (noted (stop_if purpose (at e.0 p)) stops) alone (sym (cond-false (nat_eq key e.0) (Some e.1) (lookup (nat_eq key) es) t) ∙ found) is)
      (cases_Bool (nat_eq key e.0))

  -- ---- nothing was noted

  pub empty_before : (es : List (ℕ × A)) (stops : List ConcernedHandset) → all_noted purpose p es stops ≡ [] → stops ≡ []
  empty_before [] stops e = e
  empty_before (x ∷ es) stops e = (noted_empty (stop_if purpose (at x.0 p)) stops (empty_before es (noted (stop_if purpose (at x.0 p)) stops) e)).1

  pub empty_there : (key : ℕ) (v : A) (es : List (ℕ × A)) (stops : List ConcernedHandset) → all_noted purpose p es stops ≡ [] → lookup (nat_eq key) es ≡ Some v → stop_if purpose (at key p) ≡ None
  empty_there key v [] stops e found = absurd cc
  empty_there key v (x ∷ es) stops e found = ⊎_elim
      (λ (t : nat_eq key x.0 ≡ true).
      subst (λ (k : ℕ). stop_if purpose (at k p) ≡ None) (sym (eqb-true key x.0 t))
      (noted_empty (stop_if purpose (at x.0 p)) stops (empty_before es (noted (stop_if purpose (at x.0 p)) stops) e)).0)
      (λ (t : nat_eq key x.0 ≡ false).
      empty_there key v es (noted (stop_if purpose (at x.0 p)) stops) e (sym (cond-false (nat_eq key x.0) (Some x.1) (lookup (nat_eq key) es) t) ∙ found))
      (cases_Bool (nat_eq key x.0))
