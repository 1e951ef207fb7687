-- Lemmas on the lists of a world.
use Rattle.std.proofs.Common.{◌≡◌, ◌⊎◌, ℕ, zero, suc, ◌<◌, ◌≤◌, List, [], ◌∷◌, Bool, true, false, cond, refl, sym, ◌∙◌, ap, subst, inl, inr, ⊎_elim, Some, eq-eqb, arith}
use Rattle.std.specs.Prelude.{◌==◌}
use Rattle.std.proofs.lemmas.Bool.{cases_eq, cond-true, cond-false, ne_eqb, eqb-true, or_cases, and_parts}
use Rattle.sms_base.specs.Among.{Among}
use Rattle.sms_world_model.specs.Groups.{is_among, all_numbers, without}
use Rattle.sms_world_model.specs.Submission.{Submission}
use Rattle.sms_world_model.specs.World.{State, Pending, Final, Message, find, IsRecorded, changed}
use Rattle.sms_world_model.specs.WorldStep.{IsUnusedId}

pick : (b : Bool) (ms rest : List ℕ) (x m : ℕ) → (Among x rest → Among x ms) → Among x (cond b rest (m ∷ rest)) → Among x (m ∷ ms)
pick true ms rest x m more h = inr (more h)
pick false ms rest x m more h = ⊎_elim (λ (e : x ≡ m). inl e) (λ (t : Among x rest). inr (more t)) h

pub among_without : (n : ℕ) (ms : List ℕ) (x : ℕ) → Among x (without n ms) → Among x ms
among_without n [] x h = h
among_without n (m ∷ ms) x h = pick (n == m) ms (without n ms) x m (among_without n ms x) h

same_some : (x y : Message) → Some x ≡ Some y → x ≡ y
same_some x y e = cc

pub among_from_test : (n : ℕ) (ms : List ℕ) → is_among n ms ≡ true → Among n ms
among_from_test n [] e = absurd (cc)
among_from_test n (m ∷ ms) e =
    ⊎_elim (λ (p : (n == m) ≡ true). inl (eqb-true n m p)) (λ (q : is_among n ms ≡ true). inr (among_from_test n ms q)) (or_cases (n == m) (is_among n ms) e)

pub number_done : (n : ℕ) (ms : List ℕ) (k : ℕ) → all_numbers n ms ≡ true → 0 < k → k ≤ n → Among k ms
number_done zero ms k e a l = absurd (omega arith)
number_done (suc n) ms k e a l =
    let both = and_parts (is_among (suc n) ms) (all_numbers n ms) e in
    ⊎_elim
    (λ (p : k ≡ suc n). subst (λ m. Among m ms) (sym p) (among_from_test (suc n) ms both.0))
    (λ (q : k ≡ suc n → ⊥). number_done n ms k both.1 a (omega arith))
    (cases_eq k (suc n))

find_here : (id : ℕ) (e : Message) (t : List Message) → e.submission.id ≡ id → find id (e ∷ t) ≡ Some e
find_here id e t p = cond-true (e.submission.id == id) (Some e) (find id t) (eq-eqb e.submission.id id p)

find_there : (id : ℕ) (e : Message) (t : List Message) → ¬ (e.submission.id ≡ id) → find id (e ∷ t) ≡ find id t
find_there id e t p = cond-false (e.submission.id == id) (Some e) (find id t) (ne_eqb e.submission.id id p)

pub new_not_found : (t : List Message) (id : ℕ) (s : Submission) (st : State) → IsUnusedId t id → IsRecorded t id s st → ⊥
new_not_found [] id s st n h = cc
new_not_found (e ∷ t) id s st n h = new_not_found t id s st n.1 (sym (find_there id e t n.0) ∙ h)

abbrev one : ℕ → (Message → State) → Message → Message
one id f e = cond (e.submission.id == id) (record { submission = e.submission; state = f e }) e

one_here : (id : ℕ) (f : Message → State) (e : Message) → e.submission.id ≡ id → one id f e ≡ record { submission = e.submission; state = f e }
one_here id f e p = cond-true (e.submission.id == id) (record { submission = e.submission; state = f e }) e (eq-eqb e.submission.id id p)

one_there : (id : ℕ) (f : Message → State) (e : Message) → ¬ (e.submission.id ≡ id) → one id f e ≡ e
one_there id f e p = cond-false (e.submission.id == id) (record { submission = e.submission; state = f e }) e (ne_eqb e.submission.id id p)

pub changed_here : (t : List Message) (id : ℕ) (f : Message → State) (e : Message) → find id t ≡ Some e → find id (changed id f t) ≡ Some (record { submission = e.submission; state = f e })
changed_here [] id f e h = absurd (cc)
changed_here (x ∷ t) id f e h =
    ⊎_elim
    (λ (p : x.submission.id ≡ id).
    let same : x ≡ e = same_some x e (sym (find_here id x t p) ∙ h) in
    ap (λ (y : Message). find id (y ∷ changed id f t)) (one_here id f x p)
    ∙ find_here id (record { submission = x.submission; state = f x }) (changed id f t) p
    ∙ ap (λ (y : Message). Some (let z : Message = record { submission = y.submission; state = f y } in z)) same)
    (λ (p : x.submission.id ≡ id → ⊥).
    ap (λ (y : Message). find id (y ∷ changed id f t)) (one_there id f x p)
    ∙ find_there id x (changed id f t) p
    ∙ changed_here t id f e (sym (find_there id x t p) ∙ h))
    (cases_eq x.submission.id id)

pub changed_there : (t : List Message) (id : ℕ) (f : Message → State) (j : ℕ) → ¬ (j ≡ id) → find j (changed id f t) ≡ find j t
changed_there [] id f j n = refl
changed_there (x ∷ t) id f j n =
    ⊎_elim
    (λ (p : x.submission.id ≡ id).
    ap (λ (y : Message). find j (y ∷ changed id f t)) (one_here id f x p)
    ∙ find_there j (record { submission = x.submission; state = f x }) (changed id f t) (λ q. n (sym q ∙ p))
    ∙ changed_there t id f j n
    ∙ sym (find_there j x t (λ q. n (sym q ∙ p))))
    (λ (p : x.submission.id ≡ id → ⊥).
    ap (λ (y : Message). find j (y ∷ changed id f t)) (one_there id f x p)
    ∙ ⊎_elim
    (λ (q : x.submission.id ≡ j). find_here j x (changed id f t) q ∙ sym (find_here j x t q))
    (λ (q : x.submission.id ≡ j → ⊥). find_there j x (changed id f t) q ∙ changed_there t id f j n ∙ sym (find_there j x t q))
    (cases_eq x.submission.id j))
    (cases_eq x.submission.id id)

-- one id has one message
pub same_message : (t : List Message) (id : ℕ) (s x : Submission) (st y : State) → IsRecorded t id s st → IsRecorded t id x y → (s ≡ x) × (st ≡ y)
same_message t id s x st y h k =
    let e = same_some (record { submission = s; state = st }) (record { submission = x; state = y }) (sym h ∙ k) in
    (ap (λ (m : Message). m.submission) e, ap (λ (m : Message). m.state) e)

pub changed_back : (t : List Message) (id : ℕ) (f : Message → State) (s x : Submission) (st y : State) (j : ℕ) → IsRecorded t id s st → IsRecorded (changed id f t) j x y
    → ((j ≡ id) × (x ≡ s) × (y ≡ f (record { submission = s; state = st }))) ⊎ (¬ (j ≡ id) × IsRecorded t j x y)
changed_back t id f s x st y j h k =
    ⊎_elim
    (λ (p : j ≡ id).
    let e = same_some (record { submission = x; state = y }) (record { submission = s; state = f (record { submission = s; state = st }) }) (sym (subst (λ i. IsRecorded (changed id f t) i x y) p k) ∙ changed_here t id f (record { submission = s; state = st }) h) in
    inl (p, ap (λ (m : Message). m.submission) e, ap (λ (m : Message). m.state) e))
    (λ (p : j ≡ id → ⊥). inr (p, sym (changed_there t id f j p) ∙ k))
    (cases_eq j id)

-- what may become of a state
abbrev pub Later : State → State → Type 0
Later (Pending done) y = Unit {0}
Later (Final f) y = y ≡ Final f

abbrev pub Grows : List Message → List Message → Type 0
Grows t v = (id : ℕ) (s : Submission) (st : State) → IsRecorded t id s st → (y : State) × (IsRecorded v id s y × Later st y)

pub later_same : (st : State) → Later st st
later_same (Pending done) = tt
later_same (Final f) = refl

pub changed_grows : (t : List Message) (id : ℕ) (f : Message → State) (s : Submission) (done : List ℕ) → IsRecorded t id s (Pending done) → Grows t (changed id f t)
changed_grows t id f s done h j x st k =
    ⊎_elim
    (λ (p : j ≡ id).
    let e = same_message t id x s st (Pending done) (subst (λ i. IsRecorded t i x st) p k) h in (
      f (record { submission = x; state = st }),
      (
        subst (λ i. IsRecorded (changed id f t) i x (f (record { submission = x; state = st }))) (sym p)
            (changed_here t id f (record { submission = x; state = st }) (subst (λ i. IsRecorded t i x st) p k)),
        subst (λ y. Later y (f (record { submission = x; state = st }))) (sym e.1) tt,
      ),
    ))
    (λ (p : j ≡ id → ⊥). (st, (changed_there t id f j p ∙ k, later_same st)))
    (cases_eq j id)

pub entered_here : (t : List Message) (s : Submission) (st : State) → IsRecorded (record { submission = s; state = st } ∷ t) s.id s st
entered_here t s st = find_here s.id (record { submission = s; state = st }) t refl

pub entered_grows : (t : List Message) (s : Submission) (st : State) → IsUnusedId t s.id → Grows t (record { submission = s; state = st } ∷ t)
entered_grows t s st n j x y k =
    (y, (find_there j (record { submission = s; state = st }) t (λ p. new_not_found t s.id x y n (subst (λ i. IsRecorded t i x y) (sym p) k)) ∙ k, later_same y))

pub entered_back : (t : List Message) (s x : Submission) (st y : State) (j : ℕ) → IsRecorded (record { submission = s; state = st } ∷ t) j x y
    → ((j ≡ s.id) × (x ≡ s) × (y ≡ st)) ⊎ IsRecorded t j x y
entered_back t s x st y j k =
    ⊎_elim
    (λ (p : s.id ≡ j).
    let e = same_some (record { submission = s; state = st }) (record { submission = x; state = y }) (sym (find_here j (record { submission = s; state = st }) t p) ∙ k) in
    inl (sym p, sym (ap (λ (m : Message). m.submission) e), sym (ap (λ (m : Message). m.state) e)))
    (λ (p : s.id ≡ j → ⊥). inr (sym (find_there j (record { submission = s; state = st }) t p) ∙ k))
    (cases_eq s.id j)
