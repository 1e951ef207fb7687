-- While rounds are kept fresh and each part is accepted at most once, ended groups are the finished rounds.
use Rattle.std.proofs.Common.{◌≡◌, ◌⊎◌, ℕ, zero, suc, ◌<◌, ◌≤◌, List, [], ◌∷◌, Bool, true, false, cond, refl, sym, ◌∙◌, ap, subst, inl, inr, ⊎_elim, arith, eq-eqb}
use Rattle.std.specs.Prelude.{◌==◌, ◌||◌}
use Rattle.std.proofs.lemmas.Bool.{cases_eq, cases_Bool, and_parts, and_from, cond-true, cond-false, both_ways}
use Rattle.sms_base.specs.Among.{Among}
use Rattle.sms_world_model.specs.Groups.{is_among, all_numbers, number_in, numbers, Groups, grouped, groups, Rounds, rounded, rounds, SameItems}
use Rattle.sms_world_model.specs.World.{Accepted}
use Rattle.sms_world_model.specs.Premises.{AllArrived}
use Rattle.sms_world_model.proofs.Tables.{among_from_test}

pub test_from_among : (n : ℕ) (ms : List ℕ) → Among n ms → is_among n ms ≡ true
test_from_among n [] i = absurd i
test_from_among n (m ∷ ms) i =
    ⊎_elim
    (λ (e : n ≡ m). let t : (n == m) ≡ true = eq-eqb n m e in ap (λ b. b || is_among n ms) t)
    (λ (j : Among n ms). let t = test_from_among n ms j in ap (λ b. (n == m) || b) t ∙ or_true (n == m))
    i
  where
    or_true : (b : Bool) → (b || true) ≡ true
    or_true true = refl
    or_true false = refl

from_numbers : (n : ℕ) (ps : List Accepted) → Among n (numbers ps) → (q : Accepted) × (Among q ps × (number_in q ≡ n))
from_numbers n [] i = absurd i
from_numbers n (p ∷ ps) i =
    ⊎_elim
    (λ (e : n ≡ number_in p). (p, (inl refl, sym e)))
    (λ (j : Among n (numbers ps)). let x = from_numbers n ps j in (x.0, (inr x.1.0, x.1.1)))
    i

to_numbers : (q : Accepted) (ps : List Accepted) → Among q ps → Among (number_in q) (numbers ps)
to_numbers q [] i = i
to_numbers q (p ∷ ps) i = ⊎_elim (λ (e : q ≡ p). inl (ap number_in e)) (λ (j : Among q ps). inr (to_numbers q ps j)) i

pub one_with : (n : ℕ) (ps : List Accepted) → is_among n (numbers ps) ≡ true → (q : Accepted) × (Among q ps × (number_in q ≡ n))
one_with n ps e = from_numbers n ps (among_from_test n (numbers ps) e)

pub test_with : (q : Accepted) (n : ℕ) (ps : List Accepted) → Among q ps → number_in q ≡ n → is_among n (numbers ps) ≡ true
test_with q n ps i e = subst (λ m. is_among m (numbers ps) ≡ true) e (test_from_among (number_in q) (numbers ps) (to_numbers q ps i))

abbrev pub AllNumbers : ℕ → List Accepted → Type 0
AllNumbers total ps = (n : ℕ) → 0 < n → n ≤ total → (q : Accepted) × (Among q ps × (number_in q ≡ n))

pub all_from_test : (total : ℕ) (ps : List Accepted) → all_numbers total (numbers ps) ≡ true → AllNumbers total ps
all_from_test zero ps e n a b = absurd (omega arith)
all_from_test (suc t) ps e n a b =
    let both = and_parts (is_among (suc t) (numbers ps)) (all_numbers t (numbers ps)) e in
    ⊎_elim
    (λ (d : n ≡ suc t). subst (λ m. (q : Accepted) × (Among q ps × (number_in q ≡ m))) (sym d) (one_with (suc t) ps both.0))
    (λ (d : n ≡ suc t → ⊥). all_from_test t ps both.1 n a (omega arith))
    (cases_eq n (suc t))

test_from_all : (total : ℕ) (ps : List Accepted) → AllNumbers total ps → all_numbers total (numbers ps) ≡ true
test_from_all zero ps all = refl
test_from_all (suc t) ps all =
    let x = all (suc t) (omega arith) (omega arith) in
    and_from (is_among (suc t) (numbers ps)) (all_numbers t (numbers ps))
    (test_with x.0 (suc t) ps x.1.0 x.1.1)
    (test_from_all t ps (λ n a b. all n a (omega arith)))

none_full : (total : ℕ) → 0 < total → all_numbers total [] ≡ false
none_full zero a = absurd (omega arith)
none_full (suc t) a = refl

-- the three things that a part may do to the groups
pub passed : (total : ℕ) (p : Accepted) (g : Groups) → is_among (number_in p) (numbers g.present) ≡ true → grouped total p g ≡ g
passed total p g e =
    cond-true (is_among (number_in p) (numbers g.present)) g
    (cond (all_numbers total (numbers (p ∷ g.present))) (record { present = []; ended = (p ∷ g.present) ∷ g.ended }) (record { present = p ∷ g.present; ended = g.ended })) e

pub ends : (total : ℕ) (p : Accepted) (g : Groups) → is_among (number_in p) (numbers g.present) ≡ false → all_numbers total (numbers (p ∷ g.present)) ≡ true
    → grouped total p g ≡ record { present = []; ended = (p ∷ g.present) ∷ g.ended }
ends total p g e f =
    cond-false (is_among (number_in p) (numbers g.present)) g
    (cond (all_numbers total (numbers (p ∷ g.present))) (record { present = []; ended = (p ∷ g.present) ∷ g.ended }) (record { present = p ∷ g.present; ended = g.ended })) e
    ∙ cond-true (all_numbers total (numbers (p ∷ g.present))) (record { present = []; ended = (p ∷ g.present) ∷ g.ended }) (record { present = p ∷ g.present; ended = g.ended }) f

pub goes_in : (total : ℕ) (p : Accepted) (g : Groups) → is_among (number_in p) (numbers g.present) ≡ false → all_numbers total (numbers (p ∷ g.present)) ≡ false
    → grouped total p g ≡ record { present = p ∷ g.present; ended = g.ended }
goes_in total p g e f =
    cond-false (is_among (number_in p) (numbers g.present)) g
    (cond (all_numbers total (numbers (p ∷ g.present))) (record { present = []; ended = (p ∷ g.present) ∷ g.ended }) (record { present = p ∷ g.present; ended = g.ended })) e
    ∙ cond-false (all_numbers total (numbers (p ∷ g.present))) (record { present = []; ended = (p ∷ g.present) ∷ g.ended }) (record { present = p ∷ g.present; ended = g.ended }) f

-- a fact of each of the three
pub by_cases : (P : Groups → Type 0) (total : ℕ) (p : Accepted) (g : Groups)
    → (is_among (number_in p) (numbers g.present) ≡ true → P g)
    → (is_among (number_in p) (numbers g.present) ≡ false → all_numbers total (numbers (p ∷ g.present)) ≡ true → P (record { present = []; ended = (p ∷ g.present) ∷ g.ended }))
    → (is_among (number_in p) (numbers g.present) ≡ false → all_numbers total (numbers (p ∷ g.present)) ≡ false → P (record { present = p ∷ g.present; ended = g.ended }))
    → P (grouped total p g)
by_cases P total p g one two three =
    ⊎_elim
    (λ (e : is_among (number_in p) (numbers g.present) ≡ true). subst P (sym (passed total p g e)) (one e))
    (λ (e : is_among (number_in p) (numbers g.present) ≡ false). ⊎_elim
    (λ (f : all_numbers total (numbers (p ∷ g.present)) ≡ true). subst P (sym (ends total p g e f)) (two e f))
    (λ (f : all_numbers total (numbers (p ∷ g.present)) ≡ false). subst P (sym (goes_in total p g e f)) (three e f))
    (cases_Bool (all_numbers total (numbers (p ∷ g.present)))))
    (cases_Bool (is_among (number_in p) (numbers g.present)))

pub by_cases_round : (P : Rounds → Type 0) (p : Accepted) (r : Rounds)
    → (is_among (number_in p) (numbers r.present) ≡ true → P (record { present = p ∷ []; finished = r.present ∷ r.finished }))
    → (is_among (number_in p) (numbers r.present) ≡ false → P (record { present = p ∷ r.present; finished = r.finished }))
    → P (rounded p r)
by_cases_round P p r one two =
    ⊎_elim
    (λ (e : is_among (number_in p) (numbers r.present) ≡ true).
    subst P (sym (cond-true (is_among (number_in p) (numbers r.present)) (record { present = p ∷ []; finished = r.present ∷ r.finished }) (record { present = p ∷ r.present; finished = r.finished }) e)) (one e))
    (λ (e : is_among (number_in p) (numbers r.present) ≡ false).
    subst P (sym (cond-false (is_among (number_in p) (numbers r.present)) (record { present = p ∷ []; finished = r.present ∷ r.finished }) (record { present = p ∷ r.present; finished = r.finished }) e)) (two e))
    (cases_Bool (is_among (number_in p) (numbers r.present)))

-- what is in a group was accepted
abbrev pub Within : Groups → List Accepted → Type 0
Within g ps = ((q : Accepted) → Among q g.present → Among q ps) × ((e : List Accepted) (q : Accepted) → Among e g.ended → Among q e → Among q ps)

pub within : (total : ℕ) (ps : List Accepted) → Within (groups total ps) ps
within total [] = ((λ q i. i), (λ e q i j. absurd i))
within total (p ∷ ps) =
    let old = within total ps in
    let g = groups total ps in
    by_cases (λ g'. Within g' (p ∷ ps)) total p g
    (λ _. ((λ q i. inr (old.0 q i)), (λ e q i j. inr (old.1 e q i j))))
    (λ _ _. (
      (λ q i. absurd i),
      (λ e q i j. ⊎_elim
          (λ (d : e ≡ p ∷ g.present). ⊎_elim (λ (c : q ≡ p). inl c) (λ (c : Among q g.present). inr (old.0 q c)) (subst (λ l. Among q l) d j))
          (λ (d : Among e g.ended). inr (old.1 e q d j)) i),
    ))
    (λ _ _. (
      (λ q i. ⊎_elim (λ (c : q ≡ p). inl c) (λ (c : Among q g.present). inr (old.0 q c)) i),
      (λ e q i j. inr (old.1 e q i j)),
    ))

-- the present group is not full
pub not_full : (total : ℕ) (ps : List Accepted) → 0 < total → all_numbers total (numbers (groups total ps).present) ≡ false
not_full total [] a = none_full total a
not_full total (p ∷ ps) a =
    by_cases (λ g'. all_numbers total (numbers g'.present) ≡ false) total p (groups total ps) (λ _. not_full total ps a) (λ _ _. none_full total a) (λ _ f. f)

-- an ended group has each number
pub ended_full : (total : ℕ) (ps : List Accepted) (e : List Accepted) → Among e (groups total ps).ended → AllNumbers total e
ended_full total [] e i = absurd i
ended_full total (p ∷ ps) e i =
    by_cases (λ g'. Among e g'.ended → AllNumbers total e) total p (groups total ps)
    (λ _ j. ended_full total ps e j)
    (λ _ f j. ⊎_elim
    (λ (d : e ≡ p ∷ (groups total ps).present). subst (AllNumbers total) (sym d) (all_from_test total (p ∷ (groups total ps).present) f))
    (λ (k : Among e (groups total ps).ended). ended_full total ps e k) j)
    (λ _ _ j. ended_full total ps e j)
    i

-- what was submitted is in a round
pub in_round : (ps : List Accepted) (q : Accepted) → Among q ps → Among q (rounds ps).present ⊎ ((r : List Accepted) × (Among r (rounds ps).finished × Among q r))
in_round [] q i = absurd i
in_round (p ∷ ps) q i =
    let r = rounds ps in
    by_cases_round (λ r'. Among q r'.present ⊎ ((x : List Accepted) × (Among x r'.finished × Among q x))) p r
    (λ _. ⊎_elim
    (λ (e : q ≡ p). inl (inl e))
    (λ (j : Among q ps). inr (⊎_elim
    (λ (k : Among q r.present). let x : (y : List Accepted) × (Among y (r.present ∷ r.finished) × Among q y) = (r.present, (inl refl, k)) in x)
    (λ (k : (x : List Accepted) × (Among x r.finished × Among q x)). (k.0, (inr k.1.0, k.1.1)))
    (in_round ps q j))) i)
    (λ _. ⊎_elim
    (λ (e : q ≡ p). inl (inl e))
    (λ (j : Among q ps). ⊎_elim
    (λ (k : Among q r.present). inl (inr k))
    (λ (k : (x : List Accepted) × (Among x r.finished × Among q x)). inr k)
    (in_round ps q j)) i)

-- numbers in a round differ
abbrev pub Differ : List Accepted → Type 0
Differ ps = (q x : Accepted) → Among q ps → Among x ps → number_in q ≡ number_in x → q ≡ x

differ_more : (p : Accepted) (ps : List Accepted) → is_among (number_in p) (numbers ps) ≡ false → Differ ps → Differ (p ∷ ps)
differ_more p ps new old q x i j e =
    ⊎_elim
    (λ (c : q ≡ p). ⊎_elim
    (λ (d : x ≡ p). c ∙ sym d)
    (λ (d : Among x ps). absurd (both_ways (is_among (number_in p) (numbers ps)) new (test_with x (number_in p) ps d (sym e ∙ ap number_in c)))) j)
    (λ (c : Among q ps). ⊎_elim
    (λ (d : x ≡ p). absurd (both_ways (is_among (number_in p) (numbers ps)) new (test_with q (number_in p) ps c (e ∙ ap number_in d))))
    (λ (d : Among x ps). old q x c d e) j)
    i

differ_one : (p : Accepted) → Differ (p ∷ [])
differ_one p q x i j e = ⊎_elim (λ (c : q ≡ p). ⊎_elim (λ (d : x ≡ p). c ∙ sym d) (λ (d : ⊥). absurd d) j) (λ (c : ⊥). absurd c) i

abbrev pub RoundsDiffer : Rounds → Type 0
RoundsDiffer r = Differ r.present × ((x : List Accepted) → Among x r.finished → Differ x)

pub rounds_differ : (ps : List Accepted) → RoundsDiffer (rounds ps)
rounds_differ [] = ((λ q x i. absurd i), (λ x i. absurd i))
rounds_differ (p ∷ ps) =
    let old = rounds_differ ps in
    by_cases_round RoundsDiffer p (rounds ps)
    (λ _. (differ_one p, (λ x i. ⊎_elim (λ (e : x ≡ (rounds ps).present). subst Differ (sym e) old.0) (λ (j : Among x (rounds ps).finished). old.1 x j) i)))
    (λ f. (differ_more p (rounds ps).present f old.0, old.1))

-- lists of groups and rounds, one by one
abbrev pub Lined : List (List Accepted) → List (List Accepted) → Type 0
Lined [] [] = Unit {0}
Lined [] (r ∷ rs) = ⊥
Lined (e ∷ es) [] = ⊥
Lined (e ∷ es) (r ∷ rs) = SameItems e r × Lined es rs

pub lined_back : (es rs : List (List Accepted)) (r : List Accepted) → Lined es rs → Among r rs → (e : List Accepted) × (Among e es × SameItems e r)
lined_back [] [] r l i = absurd i
lined_back [] (x ∷ rs) r l i = absurd l
lined_back (e ∷ es) [] r l i = absurd l
lined_back (e ∷ es) (x ∷ rs) r l i =
    ⊎_elim
    (λ (d : r ≡ x). (e, (inl refl, subst (SameItems e) (sym d) l.0)))
    (λ (j : Among r rs). let y = lined_back es rs r l.1 j in (y.0, (inr y.1.0, y.1.1)))
    i

pub lined_to : (es rs : List (List Accepted)) (e : List Accepted) → Lined es rs → Among e es → (r : List Accepted) × (Among r rs × SameItems e r)
lined_to [] [] e l i = absurd i
lined_to [] (x ∷ rs) e l i = absurd l
lined_to (y ∷ es) [] e l i = absurd l
lined_to (y ∷ es) (x ∷ rs) e l i =
    ⊎_elim
    (λ (d : e ≡ y). (x, (inl refl, subst (λ z. SameItems z x) (sym d) l.0)))
    (λ (j : Among e es). let z = lined_to es rs e l.1 j in (z.0, (inr z.1.0, z.1.1)))
    i

-- the present round is open, and the present group has what was accepted of it; or it was accepted whole
abbrev pub Match : ℕ → Groups → Rounds → List Accepted → Type 0
Match total g r accepted =
    (Lined g.ended r.finished × ((q : Accepted) → Among q g.present → Among q r.present) × ((q : Accepted) → Among q r.present → Among q accepted → Among q g.present))
    ⊎ ((g.present ≡ []) × AllNumbers total r.present × Lined g.ended (r.present ∷ r.finished))

abbrev pub InRange : ℕ → List Accepted → Type 0
InRange total ps = (q : Accepted) → Among q ps → (0 < number_in q) × (number_in q ≤ total)

-- a part of the list arrives for the first time
pub match_arrive : (total : ℕ) (subs acc : List Accepted) (p : Accepted) → Match total (groups total acc) (rounds subs) acc
    → Among p subs → ¬ Among p acc → InRange total (rounds subs).present → Match total (groups total (p ∷ acc)) (rounds subs) (p ∷ acc)
match_arrive total subs acc p m i new range =
    ⊎_elim
    (λ (o : Lined g.ended r.finished × ((q : Accepted) → Among q g.present → Among q r.present) × ((q : Accepted) → Among q r.present → Among q acc → Among q g.present)).
    ⊎_elim
    (λ (here : Among p r.present).
    by_cases (λ g'. Match total g' r (p ∷ acc)) total p g
    (λ e. let x = one_with (number_in p) g.present e in
    absurd (new (subst (λ y. Among y acc) ((rounds_differ subs).0 x.0 p (o.1 x.0 x.1.0) here x.1.1) ((within total acc).0 x.0 x.1.0))))
    (λ e f.
    let all = all_from_test total (p ∷ g.present) f in
    let sub : (q : Accepted) → Among q (p ∷ g.present) → Among q r.present =
    (λ q j. ⊎_elim (λ (c : q ≡ p). subst (λ y. Among y r.present) (sym c) here) (λ (c : Among q g.present). o.1 q c) j) in
    inr (
      refl,
      (λ n a b. let x = all n a b in (x.0, (sub x.0 x.1.0, x.1.1))),
      (
        (λ q. (
          sub q,
          (λ j. let bounds = range q j in let x = all (number_in q) bounds.0 bounds.1 in
              subst (λ y. Among y (p ∷ g.present)) ((rounds_differ subs).0 x.0 q (sub x.0 x.1.0) j x.1.1) x.1.0),
        )),
        o.0,
      ),
    ))
    (λ e f. inl (
      o.0,
      (λ q j. ⊎_elim (λ (c : q ≡ p). subst (λ y. Among y r.present) (sym c) here) (λ (c : Among q g.present). o.1 q c) j),
      (λ q j k. ⊎_elim (λ (c : q ≡ p). inl c) (λ (c : Among q acc). inr (o.2 q j c)) k),
    )))
    (λ (far : (x : List Accepted) × (Among x r.finished × Among p x)). absurd (gone r.finished o.0 far))
    (in_round subs p i))
    (λ (c : (g.present ≡ []) × AllNumbers total r.present × Lined g.ended (r.present ∷ r.finished)).
    absurd (⊎_elim
    (λ (here : Among p r.present). gone (r.present ∷ r.finished) c.2 (r.present, (inl refl, here)))
    (λ (far : (x : List Accepted) × (Among x r.finished × Among p x)). gone (r.present ∷ r.finished) c.2 (far.0, (inr far.1.0, far.1.1)))
    (in_round subs p i)))
    m
  where
    g : Groups
    g = groups total acc

    r : Rounds
    r = rounds subs

    gone : (rs : List (List Accepted)) → Lined (groups total acc).ended rs → ((x : List Accepted) × (Among x rs × Among p x)) → ⊥
    gone rs l far =
        let e = lined_back (groups total acc).ended rs far.0 l far.1.0 in
        new ((within total acc).1 e.0 p e.1.0 ((e.1.1 p).1 far.1.1))

-- a part is submitted
pub match_submit : (total : ℕ) (subs acc : List Accepted) (p : Accepted) → Match total (groups total acc) (rounds subs) acc
    → ¬ Among p acc → 0 < number_in p → number_in p ≤ total
    → (is_among (number_in p) (numbers (rounds subs).present) ≡ true → AllArrived total (rounds subs).present acc)
    → Match total (groups total acc) (rounds (p ∷ subs)) acc
match_submit total subs acc p m new low high fresh =
    by_cases_round (λ r'. Match total (groups total acc) r' acc) p (rounds subs)
    (λ e. ⊎_elim
    (λ (o : Lined (groups total acc).ended (rounds subs).finished × ((q : Accepted) → Among q (groups total acc).present → Among q (rounds subs).present) × ((q : Accepted) → Among q (rounds subs).present → Among q acc → Among q (groups total acc).present)).
    let full : AllNumbers total (groups total acc).present = (λ n a b. let x = fresh e n a b in (x.0, (o.2 x.0 x.1.0 x.1.2, x.1.1))) in
    absurd (both_ways (all_numbers total (numbers (groups total acc).present)) (not_full total acc (omega arith)) (test_from_all total (groups total acc).present full)))
    (λ (c : ((groups total acc).present ≡ []) × AllNumbers total (rounds subs).present × Lined (groups total acc).ended ((rounds subs).present ∷ (rounds subs).finished)).
    inl (
      c.2,
      (λ q j. let none : Among q [] = subst (λ l. Among q l) c.0 j in absurd none),
      (λ q j k. ⊎_elim (λ (d : q ≡ p). absurd (new (subst (λ y. Among y acc) d k))) (λ (d : ⊥). absurd d) j),
    ))
    m)
    (λ f. ⊎_elim
    (λ (o : Lined (groups total acc).ended (rounds subs).finished × ((q : Accepted) → Among q (groups total acc).present → Among q (rounds subs).present) × ((q : Accepted) → Among q (rounds subs).present → Among q acc → Among q (groups total acc).present)).
    inl (
      o.0,
      (λ q j. inr (o.1 q j)),
      (λ q j k. ⊎_elim (λ (d : q ≡ p). absurd (new (subst (λ y. Among y acc) d k))) (λ (d : Among q (rounds subs).present). o.2 q d k) j),
    ))
    (λ (c : ((groups total acc).present ≡ []) × AllNumbers total (rounds subs).present × Lined (groups total acc).ended ((rounds subs).present ∷ (rounds subs).finished)).
    let x = c.1 (number_in p) low high in
    absurd (both_ways (is_among (number_in p) (numbers (rounds subs).present)) f (test_with x.0 (number_in p) (rounds subs).present x.1.0 x.1.1)))
    m)
