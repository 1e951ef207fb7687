-- Handsets by their places are handsets by their numbers.
use Rattle.std.proofs.Common.{◌≡◌, ℕ, zero, suc, ◌+◌, List, [], ◌∷◌, true, false, refl, sym, ◌∙◌, ap, subst, arith, inl, inr, ⊎_elim, Some, None, get_or, slice_set}
use Rattle.std.specs.Str.{bytes_eq}
use Rattle.std.proofs.lemmas.Bool.{cases_Bool, cond-false, cond-true}
use Rattle.std.proofs.lemmas.Slice.Eq.{bytes_eq-Decides}
use Rattle.std.proofs.lemmas.Option.{same_Some}
use Rattle.sms_base.specs.Among.{Among}
use Rattle.sms_play.specs.PlayState.{Party, numbers_of, party_at, with_party}
use Rattle.sms_player.specs.playing.Places.{IsFirstAt, place_from}

same_number : (p q : Party) → p ≡ q → bytes_eq p.number q.number ≡ true
same_number p q e = (bytes_eq-Decides p.number q.number).1 (ap (λ (z : Party). z.number) e)

-- the first of a number is found by it
pub first_found : (place : ℕ) (party : Party) (ps : List Party) → IsFirstAt place party ps → party_at party.number ps ≡ Some party
first_found place party [] h = absurd h
first_found zero party (p ∷ ps) h = cond-true (bytes_eq p.number party.number) (Some p) (party_at party.number ps) (same_number p party h) ∙ ap (λ (z : Party). Some z) h
first_found (suc place) party (p ∷ ps) h = cond-false (bytes_eq p.number party.number) (Some p) (party_at party.number ps) h.0 ∙ first_found place party ps h.1

-- another of the same number in its place
pub set_is_with : (place : ℕ) (party q : Party) (ps : List Party) → IsFirstAt place party ps → q.number ≡ party.number → slice_set ps place q ≡ with_party q ps
set_is_with place party q [] h e = absurd h
set_is_with zero party q (p ∷ ps) h e =
    sym (cond-true (bytes_eq p.number q.number) (q ∷ ps) (p ∷ with_party q ps) ((bytes_eq-Decides p.number q.number).1 (ap (λ (z : Party). z.number) h ∙ sym e)))
set_is_with (suc place) party q (p ∷ ps) h e =
    ap (λ (z : List Party). p ∷ z) (set_is_with place party q ps h.1 e)
    ∙ sym (cond-false (bytes_eq p.number q.number) (q ∷ ps) (p ∷ with_party q ps) (subst (λ (n : List ℕ). bytes_eq p.number n ≡ false) (sym e) h.0))

pub first_after : (place : ℕ) (party q : Party) (ps : List Party) → IsFirstAt place party ps → q.number ≡ party.number → IsFirstAt place q (with_party q ps)
first_after place party q [] h e = absurd h
first_after zero party q (p ∷ ps) h e =
    subst (λ (z : List Party). IsFirstAt zero q z) (sym (cond-true (bytes_eq p.number q.number) (q ∷ ps) (p ∷ with_party q ps) ((bytes_eq-Decides p.number q.number).1 (ap (λ (z : Party). z.number) h ∙ sym e)))) refl
first_after (suc place) party q (p ∷ ps) h e =
    let other : bytes_eq p.number q.number ≡ false = subst (λ (n : List ℕ). bytes_eq p.number n ≡ false) (sym e) h.0 in
    subst (λ (z : List Party). IsFirstAt (suc place) q z) (sym (cond-false (bytes_eq p.number q.number) (q ∷ ps) (p ∷ with_party q ps) other)) (other, first_after place party q ps h.1 e)

-- it is among the numbers
pub first_among : (place : ℕ) (party : Party) (ps : List Party) → IsFirstAt place party ps → Among party.number (numbers_of ps)
first_among place party [] h = absurd h
first_among zero party (p ∷ ps) h = inl (ap (λ (z : Party). z.number) (sym h))
first_among (suc place) party (p ∷ ps) h = inr (first_among place party ps h.1)

-- numbers are as they were
pub numbers_preserved : (q : Party) (ps : List Party) → numbers_of (with_party q ps) ≡ numbers_of ps
numbers_preserved q [] = refl
numbers_preserved q (p ∷ ps) = ⊎_elim
    (λ (t : bytes_eq p.number q.number ≡ true). ap (λ (z : List Party). numbers_of z) (cond-true (bytes_eq p.number q.number) (q ∷ ps) (p ∷ with_party q ps) t)
    ∙ ap (λ (n : List ℕ). n ∷ numbers_of ps) (sym ((bytes_eq-Decides p.number q.number).0 t)))
    (λ (t : bytes_eq p.number q.number ≡ false). ap (λ (z : List Party). numbers_of z) (cond-false (bytes_eq p.number q.number) (q ∷ ps) (p ∷ with_party q ps) t)
    ∙ ap (λ (ns : List (List ℕ)). p.number ∷ ns) (numbers_preserved q ps))
    (cases_Bool (bytes_eq p.number q.number))

-- ---- the place that is looked up

pub none_there : (k : ℕ) (n : List ℕ) (ps : List Party) → place_from k n ps ≡ None → party_at n ps ≡ None
none_there k n [] e = refl
none_there k n (p ∷ ps) e = ⊎_elim
    (λ (t : bytes_eq p.number n ≡ true). absurd (some_none k (sym (cond-true (bytes_eq p.number n) (Some k) (place_from (k + 1) n ps) t) ∙ e)))
    (λ (t : bytes_eq p.number n ≡ false). cond-false (bytes_eq p.number n) (Some p) (party_at n ps) t
    ∙ none_there (k + 1) n ps (sym (cond-false (bytes_eq p.number n) (Some k) (place_from (k + 1) n ps) t) ∙ e))
    (cases_Bool (bytes_eq p.number n))
  where
    some_none : (k : ℕ) → Some k ≡ None → ⊥
    some_none k e = absurd cc

-- the handset at that place, so far behind
pub record IsThere (k place : ℕ) (n : List ℕ) (ps : List Party) : Type 0 where
  pub party : Party
  pub behind : ℕ
  pub place_is : place ≡ behind + k
  pub number : party.number ≡ n
  pub found : party_at n ps ≡ Some party
  pub first : IsFirstAt behind party ps

pub there : (k place : ℕ) (n : List ℕ) (ps : List Party) → place_from k n ps ≡ Some place → IsThere k place n ps
there k place n [] e = absurd (no e)
  where
    no : None ≡ Some place → ⊥
    no e = absurd cc
there k place n (p ∷ ps) e = ⊎_elim
    (λ (t : bytes_eq p.number n ≡ true).
    let same : k ≡ place = same_Some k place (sym (cond-true (bytes_eq p.number n) (Some k) (place_from (k + 1) n ps) t) ∙ e) in
    record { party = p; behind = zero; place_is = omega (arith, same); number = (bytes_eq-Decides p.number n).0 t; found = cond-true (bytes_eq p.number n) (Some p) (party_at n ps) t; first = refl })
    (λ (t : bytes_eq p.number n ≡ false).
    let r : IsThere (k + 1) place n ps = there (k + 1) place n ps (sym (cond-false (bytes_eq p.number n) (Some k) (place_from (k + 1) n ps) t) ∙ e) in
    record {
      party = r.party;
      behind = suc r.behind;
      place_is = omega (arith, r.place_is);
      number = r.number;
      found = cond-false (bytes_eq p.number n) (Some p) (party_at n ps) t ∙ r.found;
      first = (subst (λ (m : List ℕ). bytes_eq p.number m ≡ false) (sym r.number) t, r.first);
    })
    (cases_Bool (bytes_eq p.number n))

-- the same in its place
pub set_same : (place : ℕ) (party : Party) (ps : List Party) → IsFirstAt place party ps → slice_set ps place party ≡ ps
set_same place party [] h = absurd h
set_same zero party (p ∷ ps) h = ap (λ (z : Party). z ∷ ps) (sym h)
set_same (suc place) party (p ∷ ps) h = ap (λ (z : List Party). p ∷ z) (set_same place party ps h.1)

-- what stands at that place is the first of its number
pub first_is : (place : ℕ) (party p : Party) (ps : List Party) → IsFirstAt place party ps → p ≡ get_or ps place p → p ≡ party
first_is place party p [] h e = absurd h
first_is zero party p (x ∷ xs) h e = e ∙ h
first_is (suc place) party p (x ∷ xs) h e = first_is place party p xs h.1 e
