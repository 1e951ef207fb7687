-- Rounds and the messages that their parts come from.
use Rattle.std.proofs.Common.{◌≡◌, ◌⊎◌, ℕ, ◌+◌, ◌<◌, ◌≤◌, List, [], ◌∷◌, true, false, refl, sym, ◌∙◌, ap, subst, inl, inr, ⊎_elim, arith}
use Rattle.std.proofs.lemmas.Bool.{cases_eq, both_ways}
use Rattle.sms_base.specs.Among.{Among}
use Rattle.sms_world_model.specs.Groups.{is_among, number_in, numbers, Rounds, rounds}
use Rattle.sms_world_model.specs.World.{Accepted}
use Rattle.sms_world_model.specs.Premises.{AllArrived}
use Rattle.sms_world_model.proofs.Rounds.{AllNumbers, by_cases_round, one_with, test_with, rounds_differ}
use Rattle.sms_world_model.proofs.Joins.{rounds_all_within}

-- a round with one of these has only these; a present round with one of these has all numbers
abbrev pub IsWhole : (Accepted → Type 0) → ℕ → Rounds → Type 0
IsWhole A total r =
    ((ps : List Accepted) → Among ps (r.present ∷ r.finished) → (x : Accepted) → Among x ps → A x → (y : Accepted) → Among y ps → A y)
    × ((x : Accepted) → Among x r.present → A x → AllNumbers total r.present)

-- a part of another message is submitted
pub whole_other : (total : ℕ) (subs : List Accepted) (p : Accepted) (A B : Accepted → Type 0) → (B p → ⊥) → ((x : Accepted) → B x → A x) → ((x : Accepted) → A x → B x)
    → 0 < number_in p → number_in p ≤ total → IsWhole A total (rounds subs) → IsWhole B total (rounds (p ∷ subs))
whole_other total subs p A B new back more low high h =
    by_cases_round (λ r'. IsWhole B total r') p (rounds subs)
    (λ t. (
      (λ ps i x j b y k. ⊎_elim
          (λ (e : ps ≡ p ∷ []). absurd (new (subst B (one x (subst (λ l. Among x l) e j)) b)))
          (λ (i' : Among ps ((rounds subs).present ∷ (rounds subs).finished)). more y (h.0 ps i' x j (back x b) y k)) i),
      (λ x j b. absurd (new (subst B (one x j) b))),
    ))
    (λ f. (
      (λ ps i x j b y k. ⊎_elim
          (λ (e : ps ≡ p ∷ (rounds subs).present). absurd (none f x (subst (λ l. Among x l) e j) b))
          (λ (i' : Among ps (rounds subs).finished). more y (h.0 ps (inr i') x j (back x b) y k)) i),
      (λ x j b. absurd (none f x j b)),
    ))
  where
    one : (x : Accepted) → Among x (p ∷ []) → x ≡ p
    one x j = ⊎_elim (λ (e : x ≡ p). e) (λ (e : ⊥). absurd e) j

    none : is_among (number_in p) (numbers (rounds subs).present) ≡ false → (x : Accepted) → Among x (p ∷ (rounds subs).present) → B x → ⊥
    none f x j b =
        ⊎_elim
        (λ (e : x ≡ p). new (subst B e b))
        (λ (i : Among x (rounds subs).present).
        let q = h.1 x i (back x b) (number_in p) low high in
        both_ways (is_among (number_in p) (numbers (rounds subs).present)) f (test_with q.0 (number_in p) (rounds subs).present q.1.0 q.1.1))
        j

-- the first k parts of a split message were submitted
abbrev pub Begun : (Accepted → Type 0) → List Accepted → ℕ → Rounds → Type 0
Begun A acc k r =
    ((ps : List Accepted) → Among ps r.finished → (x : Accepted) → Among x ps → A x → ⊥)
    × (((k ≡ 0) × ((x : Accepted) → Among x r.present → A x → ⊥))
    ⊎ ((((y : Accepted) → Among y r.present → A y) × ((n : ℕ) → 0 < n → n ≤ k → (q : Accepted) × (Among q r.present × (number_in q ≡ n))) × ((q : Accepted) → Among q r.present → number_in q ≤ k))
    ⊎ ((y : Accepted) × (x : Accepted) × (Among y r.present × (k < number_in y) × Among x r.present × ¬ Among x acc))))

pub begun_more : (total : ℕ) (subs acc : List Accepted) (p : Accepted) (A B : Accepted → Type 0) (k : ℕ) → B p → ((x : Accepted) → A x → B x) → ((x : Accepted) → B x → (x ≡ p) ⊎ A x)
    → ¬ Among p subs → ¬ Among p acc → number_in p ≡ k + 1 → ((q : Accepted) → Among q (rounds subs).present → (0 < number_in q) × (number_in q ≤ total))
    → (is_among (number_in p) (numbers (rounds subs).present) ≡ true → AllArrived total (rounds subs).present acc)
    → Begun A acc k (rounds subs) → Begun B acc (k + 1) (rounds (p ∷ subs))
begun_more total subs acc p A B k mine more back new unaccepted number range fresh h =
    by_cases_round (λ r'. Begun B acc (k + 1) r') p r
    (λ t. ⊎_elim
    (λ (s : (k ≡ 0) × ((x : Accepted) → Among x r.present → A x → ⊥)). (
      (λ ps i x j b. ⊎_elim
          (λ (e : ps ≡ r.present). let j' : Among x r.present = subst (λ l. Among x l) e j in
          ⊎_elim (λ (c : x ≡ p). old x ((rounds_all_within subs).0 x j') c) (λ (a : A x). s.1 x j' a) (back x b))
          (λ (i' : Among ps r.finished). finished ps i' x j b) i),
      inr (inl (
        (λ y j. ⊎_elim (λ (e : y ≡ p). subst B (sym e) mine) (λ (e : ⊥). absurd e) j),
        (λ n low high. let e : number_in p ≡ n = omega (arith, s.0, number) in (p, (inl refl, e))),
        (λ q j. ⊎_elim (λ (e : q ≡ p). let d : number_in q ≡ number_in p = ap number_in e in omega (arith, d, number)) (λ (e : ⊥). absurd e) j),
      )),
    ))
    (λ (s : Good ⊎ Bad). ⊎_elim
    (λ (g : Good).
    let q = one_with (number_in p) r.present t in
    let high = g.2 q.0 q.1.0 in
    let e = q.1.1 in
    absurd (omega (arith, high, e, number)))
    (λ (b : Bad).
    let bounds = range b.1 b.2.2 in
    let q = fresh t (number_in b.1) bounds.0 bounds.1 in
    absurd (b.2.3 (subst (λ y. Among y acc) ((rounds_differ subs).0 q.0 b.1 q.1.0 b.2.2 q.1.1) q.1.2)))
    s)
    h.1)
    (λ f. ⊎_elim
    (λ (s : (k ≡ 0) × ((x : Accepted) → Among x r.present → A x → ⊥)). (
      (λ ps i x j b. finished ps i x j b),
      first s.0 f r.present refl,
    ))
    (λ (s : Good ⊎ Bad). ⊎_elim
    (λ (g : Good). (
      (λ ps i x j b. finished ps i x j b),
      inr (inl (
        (λ y j. ⊎_elim (λ (e : y ≡ p). subst B (sym e) mine) (λ (i : Among y r.present). more y (g.0 y i)) j),
        (λ n low high. ⊎_elim
            (λ (e : n ≡ k + 1). (p, (inl refl, number ∙ sym e)))
            (λ (e : n ≡ k + 1 → ⊥). let x = g.1 n low (omega (arith, high, e)) in (x.0, (inr x.1.0, x.1.1)))
            (cases_eq n (k + 1))),
        (λ q j. ⊎_elim
            (λ (e : q ≡ p). let d : number_in q ≡ number_in p = ap number_in e in omega (arith, d, number))
            (λ (i : Among q r.present). let l = g.2 q i in omega (arith, l)) j),
      )),
    ))
    (λ (b : Bad). (
      (λ ps i x j c. finished ps i x j c),
      inr (inr (
        b.0,
        b.1,
        (
          inr b.2.0,
          ⊎_elim
              (λ (e : number_in b.0 ≡ k + 1). absurd (both_ways (is_among (number_in p) (numbers r.present)) f (test_with b.0 (number_in p) r.present b.2.0 (e ∙ sym number))))
              (λ (e : number_in b.0 ≡ k + 1 → ⊥). let l = b.2.1 in omega (arith, e, l))
              (cases_eq (number_in b.0) (k + 1)),
          inr b.2.2,
          b.2.3,
        ),
      )),
    ))
    s)
    h.1)
  where
    r : Rounds
    r = rounds subs

    Good : Type 0
    Good = ((y : Accepted) → Among y r.present → A y) × ((n : ℕ) → 0 < n → n ≤ k → (q : Accepted) × (Among q r.present × (number_in q ≡ n))) × ((q : Accepted) → Among q r.present → number_in q ≤ k)

    Bad : Type 0
    Bad = (y : Accepted) × (x : Accepted) × (Among y r.present × (k < number_in y) × Among x r.present × ¬ Among x acc)

    old : (x : Accepted) → Among x subs → x ≡ p → ⊥
    old x i e = new (subst (λ y. Among y subs) e i)

    finished : (ps : List Accepted) → Among ps r.finished → (x : Accepted) → Among x ps → B x → ⊥
    finished ps i x j b = ⊎_elim (λ (e : x ≡ p). old x ((rounds_all_within subs).1 ps x i j) e) (λ (a : A x). h.0 ps i x j a) (back x b)

    first : k ≡ 0 → is_among (number_in p) (numbers r.present) ≡ false → (ps : List Accepted) → r.present ≡ ps
        → ((k + 1 ≡ 0) × ((x : Accepted) → Among x (p ∷ r.present) → B x → ⊥))
        ⊎ ((((y : Accepted) → Among y (p ∷ r.present) → B y) × ((n : ℕ) → 0 < n → n ≤ k + 1 → (q : Accepted) × (Among q (p ∷ r.present) × (number_in q ≡ n))) × ((q : Accepted) → Among q (p ∷ r.present) → number_in q ≤ k + 1))
        ⊎ ((y : Accepted) × (x : Accepted) × (Among y (p ∷ r.present) × (k + 1 < number_in y) × Among x (p ∷ r.present) × ¬ Among x acc)))
    first z f [] e =
        let only : (y : Accepted) → Among y (p ∷ r.present) → y ≡ p =
        (λ y j. ⊎_elim (λ (d : y ≡ p). d) (λ (i : Among y r.present). let bad : Among y [] = subst (λ l. Among y l) e i in absurd bad) j) in
        inr (inl (
          (λ y j. subst B (sym (only y j)) mine),
          (λ n low high. let d : number_in p ≡ n = omega (arith, z, number) in (p, (inl refl, d))),
          (λ q j. let d : number_in q ≡ number_in p = ap number_in (only q j) in omega (arith, d, number)),
        ))
    first z f (y ∷ ps) e =
        let here : Among y r.present = subst (λ l. Among y l) (sym e) (inl refl) in
        let bounds = range y here in
        let low = bounds.0 in
        let apart : number_in y ≡ k + 1 → ⊥ =
        (λ d. both_ways (is_among (number_in p) (numbers r.present)) f (test_with y (number_in p) r.present here (d ∙ sym number))) in
        let far : k + 1 < number_in y = omega (arith, z, low, apart) in
        inr (inr (y, p, (inr here, far, inl refl, unaccepted)))
