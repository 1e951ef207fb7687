-- Two walks over numbers in order lead to the same where both go over all that are concerned, and a number that was gone over is
-- concerned no more.
use Rattle.std.proofs.Common.{◌≡◌, ℕ, zero, suc, ◌+◌, ◌<◌, ◌≤◌, List, [], ◌∷◌, Bool, true, false, refl, sym, ◌∙◌, ap, inl, inr, ⊎_elim, length, get_or, arith}
use Rattle.std.specs.List.Sorted.{IsNonDecreasing}
use Rattle.std.proofs.lemmas.Bool.{cases_Bool, cases_eq}
use Rattle.sms_base.specs.Among.{Among}

-- ---- numbers in order

-- each is at most those behind it
abbrev pub InOrder : List ℕ → Type 0
InOrder [] = Unit {0}
InOrder (n ∷ ns) = ((k : ℕ) → Among k ns → n ≤ k) × InOrder ns

-- the place at which a number stands
place_of : (k : ℕ) (ns : List ℕ) → Among k ns → (i : ℕ) × ((i < length ns) × ((d : ℕ) → get_or ns i d ≡ k))
place_of k [] m = elim m [ ]
place_of k (n ∷ ns) m = ⊎_elim
    (λ (e : k ≡ n). (0, (omega arith, λ d. sym e)))
    (λ (a : Among k ns). let p = place_of k ns a in (suc p.0, (omega (arith, p.1.0), p.1.1)))
    m

pub in_order : (ns : List ℕ) → IsNonDecreasing ns → InOrder ns
in_order [] sorted = tt
in_order (n ∷ ns) sorted = (
  λ k m.
      let p = place_of k ns m in
      let at : (n ≤ get_or ns p.0 0) = sorted 0 (suc p.0) 0 (omega arith) (omega (arith, p.1.0)) in
      let is : get_or ns p.0 0 ≡ k = p.1.1 0 in
      omega (arith, at, is),
  in_order ns (λ i j d le lt. sorted (suc i) (suc j) d (omega (arith, le)) (omega (arith, lt))),
)

-- ---- walks

-- what a step at each of these numbers leads to
abbrev pub go : {S : Type 0} → (ℕ → S → S) → List ℕ → S → S
go step [] s = s
go step (n ∷ ns) s = go step ns (step n s)

pub record EndsAlone (S : Type 0) (step : ℕ → S → S) (concerns : ℕ → S → Bool) : Type 0 where
  pub rests : (n : ℕ) (s : S) → concerns n s ≡ false → step n s ≡ s
  -- it is concerned no more
  pub own : (n : ℕ) (s : S) → concerns n s ≡ true → concerns n (step n s) ≡ false
  pub others : (n k : ℕ) (s : S) → ¬ (n ≡ k) → concerns k (step n s) ≡ concerns k s

module _ {S : Type 0} (step : ℕ → S → S) (concerns : ℕ → S → Bool) (alone : EndsAlone S step concerns) where
  -- all that are concerned stand there
  abbrev Covers : List ℕ → S → Type 0
  Covers ns s = (n : ℕ) → concerns n s ≡ true → Among n ns

  -- a number that isn't concerned may be left out
  passed : (n : ℕ) (ns : List ℕ) (s : S) → concerns n s ≡ false → Covers (n ∷ ns) s → Covers ns s
  passed n ns s none covers k e = ⊎_elim
      (λ (q : k ≡ n). let bad : true ≡ false = sym e ∙ ap (λ (i : ℕ). concerns i s) q ∙ none in absurd cc)
      (λ (a : Among k ns). a)
      (covers k e)

  -- after its step, one that was concerned may be left out
  ended : (n : ℕ) (ns : List ℕ) (s : S) → concerns n s ≡ true → Covers (n ∷ ns) s → Covers ns (step n s)
  ended n ns s is covers k e = ⊎_elim
      (λ (q : n ≡ k). let bad : true ≡ false = sym e ∙ ap (λ (i : ℕ). concerns i (step n s)) (sym q) ∙ alone.own n s is in absurd cc)
      (λ (ne : n ≡ k → ⊥). ⊎_elim
      (λ (q : k ≡ n). absurd (ne (sym q)))
      (λ (a : Among k ns). a)
      (covers k (sym (alone.others n k s ne) ∙ e)))
      (cases_eq n k)

  -- where none is concerned, nothing is done
  go_rests : (ns : List ℕ) (s : S) → ((n : ℕ) → concerns n s ≡ false) → go step ns s ≡ s
  go_rests [] s none = refl
  go_rests (n ∷ ns) s none = ap (λ (x : S). go step ns x) (alone.rests n s (none n)) ∙ go_rests ns s none

  none_left : (s : S) → Covers [] s → (n : ℕ) → concerns n s ≡ false
  none_left s covers n = ⊎_elim
      (λ (t : concerns n s ≡ true). absurd (covers n t))
      (λ (t : concerns n s ≡ false). t)
      (cases_Bool (concerns n s))

  -- the first of both that are concerned are one number
  one_first : (a b : ℕ) (ps qs : List ℕ) (s : S) → InOrder (a ∷ ps) → InOrder (b ∷ qs) → Covers (a ∷ ps) s → Covers (b ∷ qs) s → concerns a s ≡ true → concerns b s ≡ true → a ≡ b
  one_first a b ps qs s one two ca cb ta tb =
      let low : b ≤ a = ⊎_elim (λ (e : a ≡ b). omega (arith, e)) (λ (m : Among a qs). two.0 a m) (cb a ta) in
      let high : a ≤ b = ⊎_elim (λ (e : b ≡ a). omega (arith, e)) (λ (m : Among b ps). one.0 b m) (ca b tb) in
      omega (arith, low, high)

  alike : (turns : ℕ) (ps qs : List ℕ) (s : S) → length ps + length qs ≤ turns → InOrder ps → InOrder qs → Covers ps s → Covers qs s → go step ps s ≡ go step qs s
  alike turns [] qs s few one two ca cb = sym (go_rests qs s (none_left s ca))
  alike turns (a ∷ ps) [] s few one two ca cb = go_rests (a ∷ ps) s (none_left s cb)
  alike zero (a ∷ ps) (b ∷ qs) s few one two ca cb = absurd (omega (arith, few))
  alike (suc turns) (a ∷ ps) (b ∷ qs) s few one two ca cb = ⊎_elim
      (λ (ta : concerns a s ≡ true). ⊎_elim
      (λ (tb : concerns b s ≡ true).
      let same : a ≡ b = one_first a b ps qs s one two ca cb ta tb in
      alike turns ps qs (step a s) (omega (arith, few)) one.1 two.1 (ended a ps s ta ca) (ended a qs s ta (λ k e. covered same k (cb k e)))
      ∙ ap (λ (n : ℕ). go step qs (step n s)) same)
      (λ (tb : concerns b s ≡ false).
      alike turns (a ∷ ps) qs s (omega (arith, few)) one two.1 ca (passed b qs s tb cb)
      ∙ ap (λ (x : S). go step qs x) (sym (alone.rests b s tb)))
      (cases_Bool (concerns b s)))
      (λ (ta : concerns a s ≡ false).
      ap (λ (x : S). go step ps x) (alone.rests a s ta)
      ∙ alike turns ps (b ∷ qs) s (omega (arith, few)) one.1 two (passed a ps s ta ca) cb)
      (cases_Bool (concerns a s))
    where
      covered : a ≡ b → (k : ℕ) → Among k (b ∷ qs) → Among k (a ∷ qs)
      covered same k m = ⊎_elim (λ (e : k ≡ b). inl (e ∙ sym same)) (λ (r : Among k qs). inr r) m

  pub walks_alike : (ps qs : List ℕ) (s : S) → InOrder ps → InOrder qs → ((n : ℕ) → concerns n s ≡ true → Among n ps) → ((n : ℕ) → concerns n s ≡ true → Among n qs)
      → go step ps s ≡ go step qs s
  walks_alike ps qs s one two ca cb = alike (length ps + length qs) ps qs s (omega arith) one two ca cb
