-- Deadlines in a heap: none is lost, and below one that is to come there is none that has come.
use Rattle.std.proofs.Common.{◌≡◌, ◌⊎◌, ℕ, zero, suc, ◌+◌, ◌-◌, ◌*◌, ◌<◌, ◌≤◌, List, [], ◌∷◌, ◌++◌, length, get_or, map, true, false, Option, Some, None, is_some, IfSome, ◌↔◌, refl, sym, ◌∙◌, ap, subst, inl, inr, ⊎_elim, arith}
use Rattle.std.specs.BinaryHeap.{IsHeap}
use Rattle.std.specs.List.{AllByRecursion}
use Rattle.std.specs.List.Sorted.{IsPermutation}
use Rattle.std.specs.Ordering.{is_lt}
use Rattle.std.specs.Prelude.{OnOk, Result, Ok, Err}
use Rattle.std.specs.declared.cmp.Reverse.{Reverse}
use Rattle.std.proofs.lemmas.Bool.{cases_eq}
use Rattle.std.proofs.lemmas.Bool.Decides.{nat_tests}
use Rattle.std.proofs.lemmas.List.Elements.{All-from_recursion, recursion_from_All}
use Rattle.std.proofs.lemmas.List.Sorted.{All-permutation, IsPermutation-map, IsPermutation-sym}
use Rattle.sms_base.specs.Among.{Among}
use Rattle.sms_rows.specs.declared.expiry.deadline.Deadline.{Deadline}
use Rattle.sms_rows.specs.expiry.Deadlines.{HasOnlyPast, HasPast, IsCollected, IsPastIn, IsUnder, above, first_of, heap_cmp, inside, steps_above}

-- ---- none is lost

each_among : {A : Type 0} (xs : List A) (P : A → Type 0) → ((x : A) → Among x xs → P x) → AllByRecursion P xs
each_among [] P f = tt
each_among (x ∷ xs) P f = (f x (inl refl), each_among xs P (λ y m. f y (inr m)))

among_each : {A : Type 0} (xs : List A) (P : A → Type 0) (x : A) → AllByRecursion P xs → Among x xs → P x
among_each [] P x h m = elim m [ ]
among_each (y ∷ ys) P x h m = ⊎_elim (λ (e : x ≡ y). subst P (sym e) h.0) (λ (r : Among x ys). among_each ys P x h.1 r) m

pub among_permutation : {A : Type 0} (xs ys : List A) (x : A) → IsPermutation xs ys → Among x xs → Among x ys
among_permutation {A} xs ys x p m =
    among_each xs (λ (y : A). Among y ys) x
    (recursion_from_All (λ (y : A). Among y ys) xs
    (All-permutation (λ (y : A). Among y ys) ys xs (IsPermutation-sym xs ys p)
    (All-from_recursion (λ (y : A). Among y ys) ys (each_among ys (λ (y : A). Among y ys) (λ y k. k)))))
    m

pub inside_among : (r : Reverse Deadline) (rs : List (Reverse Deadline)) → Among r rs → Among r.0 (map inside rs)
inside_among r [] m = elim m [ ]
inside_among r (s ∷ rs) m = ⊎_elim (λ (e : r ≡ s). inl (ap inside e)) (λ (k : Among r rs). inr (inside_among r rs k)) m

pub among_inside : (d : Deadline) (rs : List (Reverse Deadline)) → Among d (map inside rs) → Among (record { 0 = d }) rs
among_inside d [] m = elim m [ ]
among_inside d (s ∷ rs) m = ⊎_elim (λ (e : d ≡ s.0). inl (ap (λ (x : Deadline). let r : Reverse Deadline = record { 0 = x } in r) e)) (λ (k : Among d (map inside rs)). inr (among_inside d rs k)) m

pub pushed_own : (d : Deadline) (old new : List (Reverse Deadline)) → IsPermutation (record { 0 = d } ∷ old) new → Among d (map inside new)
pushed_own d old new p = inside_among (record { 0 = d }) new (among_permutation (record { 0 = d } ∷ old) new (record { 0 = d }) p (inl refl))

pub pushed_others : (d other : Deadline) (old new : List (Reverse Deadline)) → IsPermutation (record { 0 = d } ∷ old) new → Among other (map inside old) → Among other (map inside new)
pushed_others d other old new p m =
    inside_among (record { 0 = other }) new (among_permutation (record { 0 = d } ∷ old) new (record { 0 = other }) p (inr (among_inside other old m)))

pub popped_others : (first : Reverse Deadline) (other : Deadline) (old new : List (Reverse Deadline)) → IsPermutation old (first ∷ new) → Among other (map inside old) → (other ≡ first.0) ⊎ Among other (map inside new)
popped_others first other old new p m = ⊎_elim
    (λ (e : record { 0 = other } ≡ first). inl (ap inside e))
    (λ (k : Among (record { 0 = other }) new). inr (inside_among (record { 0 = other }) new k))
    (among_permutation old (first ∷ new) (record { 0 = other }) p (among_inside other old m))

pub appended_others : (other : Deadline) (own old new : List (Reverse Deadline)) → own ≡ [] → IsPermutation (own ++ old) new → Among other (map inside old) → Among other (map inside new)
appended_others other own old new e p m =
    inside_among (record { 0 = other }) new
    (among_permutation (own ++ old) new (record { 0 = other }) p (subst (λ (l : List (Reverse Deadline)). Among (record { 0 = other }) (l ++ old)) (sym e) (among_inside other old m)))

pub first_inside : (r : Reverse Deadline) (rs : List (Reverse Deadline)) → 0 < length rs → r ≡ get_or rs 0 r → first_of (map inside rs) ≡ Some r.0
first_inside r [] l e = absurd (omega arith)
first_inside r (s ∷ rs) l e = ap (λ (x : Reverse Deadline). Some x.0) (sym e)

pub popped : (o : Option (Reverse Deadline)) (other : Deadline) (old new : List (Reverse Deadline)) (n : ℕ) → n ≡ length old → ((is_some o ≡ true) ↔ (0 < n)) → IfSome o (λ x. x ≡ get_or old 0 x) → IfSome o (λ x. IsPermutation old (x ∷ new))
    → Among other (map inside old) → (Some other ≡ first_of (map inside old)) ⊎ Among other (map inside new)
popped None other [] new n l some top p m = elim m [ ]
popped None other (o ∷ os) new n l some top p m = let s : false ≡ true = some.1 (omega (arith, l)) in absurd cc
popped (Some x) other old new n l some top p m = ⊎_elim
    (λ (e : other ≡ x.0). inl (ap (λ (y : Deadline). Some y) e ∙ sym (first_inside x old (let s : 0 < n = some.0 refl in omega (arith, l, s)) top)))
    (λ (k : Among other (map inside new)). inr k)
    (popped_others x other old new p m)

-- ---- places

pub no_earlier : (a b : Reverse Deadline) → is_lt (heap_cmp a b) ≡ false → a.0.limit ≤ b.0.limit
no_earlier a b e = grind (arith, nat_tests)

below_place : (n k : ℕ) → steps_above n k ≤ k
below_place zero k = omega arith
below_place (suc n) k = let h = below_place n k in omega (arith, h)

far_above : (n k : ℕ) → k ≤ n → steps_above n k ≡ 0
far_above zero k l = omega arith
far_above (suc n) k l = ⊎_elim
    (λ (e : k ≡ suc n). let h = sinks n k in omega (arith, h, e))
    (λ (e : k ≡ suc n → ⊥). let h : steps_above n k ≡ 0 = far_above n k (omega (arith, e)) in omega (arith, h))
    (cases_eq k (suc n))
  where
    sinks : (m j : ℕ) → steps_above m j ≤ j - m
    sinks zero j = omega arith
    sinks (suc m) j = let h = sinks m j in omega (arith, h)

pub all_under : (k : ℕ) → IsUnder 0 k
all_under k = (k, far_above k k (omega arith))

pub under_within : (place k : ℕ) → IsUnder place k → place ≤ k
under_within place k u = let h = below_place u.0 k in let e = u.1 in omega (arith, h, e)

pub under_cases : (place k : ℕ) → IsUnder place k → (k ≡ place) ⊎ (IsUnder (2 * place + 1) k ⊎ IsUnder (2 * place + 2) k)
under_cases place k u = by u.0 u.1 where
  by : (n : ℕ) → steps_above n k ≡ place → (k ≡ place) ⊎ (IsUnder (2 * place + 1) k ⊎ IsUnder (2 * place + 2) k)
  by zero e = inl e
  by (suc n) e = ⊎_elim
      (λ (z : steps_above n k ≡ 0). by n (omega (arith, z, e)))
      (λ (z : steps_above n k ≡ 0 → ⊥). ⊎_elim
      (λ (l : steps_above n k ≡ 2 * place + 1). inr (inl (n, l)))
      (λ (l : steps_above n k ≡ 2 * place + 1 → ⊥). inr (inr (n, omega (arith, z, l, e))))
      (cases_eq (steps_above n k) (2 * place + 1)))
      (cases_eq (steps_above n k) 0)

-- in a heap what stands above is no later
pub no_later : (heap : List (Reverse Deadline)) (place k : ℕ) (d : Reverse Deadline) → IsHeap heap_cmp heap → IsUnder place k → k < length heap → (get_or heap place d).0.limit ≤ (get_or heap k d).0.limit
unfolding IsHeap
no_later heap place k d h u within = subst (λ (p : ℕ). (get_or heap p d).0.limit ≤ (get_or heap k d).0.limit) u.1 (by u.0) where
  by : (n : ℕ) → (get_or heap (steps_above n k) d).0.limit ≤ (get_or heap k d).0.limit
  by zero = omega arith
  by (suc n) = ⊎_elim
      (λ (z : steps_above n k ≡ 0). subst (λ (p : ℕ). (get_or heap (above p) d).0.limit ≤ (get_or heap k d).0.limit) (sym z) (subst (λ (p : ℕ). (get_or heap p d).0.limit ≤ (get_or heap k d).0.limit) z (by n)))
      (λ (z : steps_above n k ≡ 0 → ⊥).
      let q = below_place n k in
      let s : (get_or heap (above (steps_above n k)) d).0.limit ≤ (get_or heap (steps_above n k) d).0.limit =
      no_earlier (get_or heap (above (steps_above n k)) d) (get_or heap (steps_above n k) d)
      (h (above (steps_above n k)) (steps_above n k) d (omega arith) (omega (arith, z)) (omega (arith, z)) (omega (arith, q, within))) in
      let t = by n in omega (arith, s, t))
      (cases_eq (steps_above n k) 0)

pub all_collected : (now : ℕ) (rs : List (Reverse Deadline)) (ids sorted : List ℕ) → IsCollected now rs 0 ids → IsPermutation ids sorted → HasPast now (map inside rs) sorted
all_collected now rs ids sorted found p d m come =
    among_permutation ids sorted d.id p (by (found_at rs d m))
  where
    found_at : (xs : List (Reverse Deadline)) (e : Deadline) → Among e (map inside xs) → (k : ℕ) × ((k < length xs) × (get_or xs k (record { 0 = e }) ≡ record { 0 = e }))
    found_at [] e k = elim k [ ]
    found_at (x ∷ xs) e k = ⊎_elim
        (λ (q : e ≡ x.0). (0, (omega arith, ap (λ (y : Deadline). let r : Reverse Deadline = record { 0 = y } in r) (sym q))))
        (λ (q : Among e (map inside xs)). let f = found_at xs e q in (suc f.0, (let l = f.1.0 in omega (arith, l), f.1.1)))
        k

    by : (k : ℕ) × ((k < length rs) × (get_or rs k (record { 0 = d }) ≡ record { 0 = d })) → Among d.id ids
    by f =
        subst (λ (r : Reverse Deadline). Among r.0.id ids) f.1.1
        (found f.0 (record { 0 = d }) (all_under f.0) f.1.0 (subst (λ (r : Reverse Deadline). r.0.limit ≤ now) (sym f.1.1) come))

-- ---- what an index gives

any_default : (heap : List (Reverse Deadline)) (k : ℕ) (d e : Reverse Deadline) → k < length heap → get_or heap k d ≡ get_or heap k e
any_default [] k d e l = absurd (omega arith)
any_default (x ∷ xs) zero d e l = refl
any_default (x ∷ xs) (suc k) d e l = any_default xs k d e (omega (arith, l))

pub same_id : (heap : List (Reverse Deadline)) (place k : ℕ) (d r : Reverse Deadline) → k < length heap → k ≡ place → (get_or heap k d).0.id ≡ (get_or heap place r).0.id
same_id heap place k d r l e = ap (λ (x : Reverse Deadline). x.0.id) (any_default heap k d r l ∙ ap (λ (p : ℕ). get_or heap p r) e)

pub late : (heap : List (Reverse Deadline)) (place k now : ℕ) (d r : Reverse Deadline) → k < length heap → r ≡ get_or heap place r → (get_or heap place r).0.limit ≤ (get_or heap k r).0.limit → now < r.0.limit → (get_or heap k d).0.limit ≤ now → ⊥
late heap place k now d r within is above' after due =
    let e : r.0.limit ≡ (get_or heap place r).0.limit = ap (λ (x : Reverse Deadline). x.0.limit) is in
    let f : (get_or heap k d).0.limit ≡ (get_or heap k r).0.limit = ap (λ (x : Reverse Deadline). x.0.limit) (any_default heap k d r within) in
    omega (arith, e, f, above', after, due)

-- what follows where it succeeds
pub on_ok : {X : Type 0} {E : Type 0} (P Q : Type 0) (r : Result X E) → (P → Q) → OnOk r P → OnOk r Q
on_ok P Q (Ok x) f h = f h
on_ok P Q (Err e) f h = tt

pub both_ok : {X : Type 0} {E : Type 0} (P Q : Type 0) (r : Result X E) → OnOk r P → OnOk r Q → OnOk r (P × Q)
both_ok P Q (Ok x) h k = (h, k)
both_ok P Q (Err e) h k = tt

-- ---- one more at the end

pub among_before : (n x : ℕ) (xs : List ℕ) → Among n xs → Among n (xs ++ x ∷ [])
among_before n x [] m = elim m [ ]
among_before n x (y ∷ ys) m = ⊎_elim (λ (e : n ≡ y). inl e) (λ (r : Among n ys). inr (among_before n x ys r)) m

pub among_last_as : (n x : ℕ) (xs : List ℕ) → n ≡ x → Among n (xs ++ x ∷ [])
among_last_as n x [] e = inl e
among_last_as n x (y ∷ ys) e = inr (among_last_as n x ys e)

-- ---- nothing is added

pub pushed_exact : (d : Deadline) (old new : List (Reverse Deadline)) → IsPermutation (record { 0 = d } ∷ old) new → IsPermutation (d ∷ map inside old) (map inside new)
pushed_exact d old new p = IsPermutation-map inside (record { 0 = d } ∷ old) new p

pub popped_exact : (o : Option (Reverse Deadline)) (old new : List (Reverse Deadline)) (n : ℕ) → n ≡ length old → ((is_some o ≡ true) ↔ (0 < n)) → IfSome o (λ x. x ≡ get_or old 0 x) → IfSome o (λ x. IsPermutation old (x ∷ new))
    → IfSome (first_of (map inside old)) (λ first. IsPermutation (map inside old) (first ∷ map inside new))
popped_exact o [] new n l some top p = tt
popped_exact None (x ∷ xs) new n l some top p = let s : false ≡ true = some.1 (omega (arith, l)) in absurd cc
popped_exact (Some y) (x ∷ xs) new n l some top p =
    subst (λ (r : Reverse Deadline). IsPermutation (map inside (x ∷ xs)) (r.0 ∷ map inside new)) top (IsPermutation-map inside (x ∷ xs) (y ∷ new) p)

pub appended_exact : (own old new : List (Reverse Deadline)) → own ≡ [] → IsPermutation (own ++ old) new → IsPermutation (map inside old) (map inside new)
appended_exact own old new e p = IsPermutation-map inside old new (subst (λ (l : List (Reverse Deadline)). IsPermutation (l ++ old) new) e p)

among_get : (heap : List (Reverse Deadline)) (k : ℕ) (d : Reverse Deadline) → k < length heap → Among (get_or heap k d) heap
among_get [] k d l = absurd (omega arith)
among_get (x ∷ xs) zero d l = inl refl
among_get (x ∷ xs) (suc k) d l = inr (among_get xs k d (omega (arith, l)))

-- the deadline at a place of the heap is reached
pub past_at : (heap : List (Reverse Deadline)) (place now n : ℕ) (r : Reverse Deadline) → place < length heap → r ≡ get_or heap place r → r.0.limit ≤ now → n ≡ (get_or heap place r).0.id → IsPastIn now heap n
past_at heap place now n r within is due e = (get_or heap place r, among_get heap place r within, subst (λ (x : Reverse Deadline). x.0.limit ≤ now) is due, sym e)

pub only_collected : (now : ℕ) (rs : List (Reverse Deadline)) (before ids sorted : List ℕ) → before ≡ [] → ((n : ℕ) → Among n ids → Among n before ⊎ IsPastIn now rs n) → IsPermutation ids sorted → HasOnlyPast now (map inside rs) sorted
only_collected now rs before ids sorted none only p id m = ⊎_elim
    (λ (k : Among id before). let n : Among id [] = subst (λ (l : List ℕ). Among id l) none k in elim n [ ])
    (λ (f : IsPastIn now rs id). (f.0.0, inside_among f.0 rs f.1, f.2, f.3))
    (only id (among_permutation sorted ids id (IsPermutation-sym ids sorted p) m))
