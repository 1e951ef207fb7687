-- The parts of a round as they are kept, the oldest first, and as the definition has them.
use Rattle.std.proofs.Common.{◌≡◌, ℕ, zero, suc, ◌+◌, ◌<◌, arith, List, [], ◌∷◌, ◌++◌, Bool, true, false, cond, refl, sym, ◌∙◌, ap, subst, ⊎_elim}
use Rattle.std.specs.Prelude.{◌==◌, ◌&&◌, ◌||◌}
use Rattle.std.specs.Str.{bytes_eq}
use Rattle.std.proofs.lemmas.Bool.{and_from, and_parts, both_ways, cases_Bool, cases_eq, cond-false, cond-true, eq-eqb, eqb-true}
use Rattle.std.proofs.lemmas.Slice.Eq.{bytes_eq-Decides}
use Rattle.sms_base.proofs.Bools.{or_false}
use Rattle.sms_play.specs.Premises.{all_arrived, has_arrived, has_pair, is_same_pair}
use Rattle.sms_world_model.specs.Groups.{is_among, is_for, number_in, numbers, of_key, Rounds, rounded, rounds}
use Rattle.sms_world_model.specs.Place.{Key}
use Rattle.sms_world_model.specs.World.{Accepted}
use Rattle.sms_play.specs.judging.Watching.{AreNumbered, HasAccepted, all_arrived_in, arrived_in, is_accepted, member_numbers, newest, pair_in, with_member}
use Rattle.sms_play.specs.declared.judging.watch.Member.{Member}
use Rattle.sms_play.specs.declared.judging.watch.Pair.{Pair}

-- ---- pairs

pub pair_same : (a b : Accepted) → is_same_pair a b ≡ true → a ≡ b
pair_same a b e =
    let p = and_parts (bytes_eq a.handset b.handset) ((a.reference == b.reference) && bytes_eq a.tpdu b.tpdu) e in
    let q = and_parts (a.reference == b.reference) (bytes_eq a.tpdu b.tpdu) p.1 in
    let handset : a.handset ≡ b.handset = (bytes_eq-Decides a.handset b.handset).0 p.0 in
    let reference : a.reference ≡ b.reference = eqb-true a.reference b.reference q.0 in
    let tpdu : a.tpdu ≡ b.tpdu = (bytes_eq-Decides a.tpdu b.tpdu).0 q.1 in
    λ j. record { handset = handset j; reference = reference j; tpdu = tpdu j }

pub one_pair : (a : Accepted) → is_same_pair a a ≡ true
one_pair a =
    and_from (bytes_eq a.handset a.handset) ((a.reference == a.reference) && bytes_eq a.tpdu a.tpdu) ((bytes_eq-Decides a.handset a.handset).1 refl)
    (and_from (a.reference == a.reference) (bytes_eq a.tpdu a.tpdu) (eq-eqb a.reference a.reference refl) ((bytes_eq-Decides a.tpdu a.tpdu).1 refl))

turned_true : (a b : Accepted) → is_same_pair a b ≡ true → is_same_pair b a ≡ true
turned_true a b e = subst (λ (z : Accepted). is_same_pair z a ≡ true) (pair_same a b e) (one_pair a)

pub turned : (a b : Accepted) → is_same_pair a b ≡ is_same_pair b a
turned a b = ⊎_elim
    (λ (t : is_same_pair a b ≡ true). t ∙ sym (turned_true a b t))
    (λ (f : is_same_pair a b ≡ false). ⊎_elim
    (λ (t : is_same_pair b a ≡ true). absurd (both_ways (is_same_pair a b) f (turned_true b a t)))
    (λ (g : is_same_pair b a ≡ false). f ∙ sym g)
    (cases_Bool (is_same_pair b a)))
    (cases_Bool (is_same_pair a b))

-- ---- the newest first

moved : (a b c : Bool) → (a || (b || c)) ≡ ((b || a) || c)
moved true true c = refl
moved true false c = refl
moved false true c = refl
moved false false c = refl

pub newest_last : (a : List Accepted) (ms : List Member) (m : Member) → newest a (ms ++ m ∷ []) ≡ pair_in m.pair ∷ newest a ms
newest_last a [] m = refl
newest_last a (x ∷ ms) m = newest_last (pair_in x.pair ∷ a) ms m

-- the pairs of the parts, the oldest first
abbrev pairs_in : List Member → List Accepted
pairs_in [] = []
pairs_in (m ∷ ms) = pair_in m.pair ∷ pairs_in ms

numbers_are : (ms : List Member) → AreNumbered ms → member_numbers ms ≡ numbers (pairs_in ms)
numbers_are [] all = refl
numbers_are (m ∷ ms) all = let here = all.0 in let rest = numbers_are ms all.1 in λ j. here j ∷ rest j

stands_over : (n : ℕ) (a : List Accepted) (ms : List Member) → is_among n (numbers (newest a ms)) ≡ (is_among n (numbers (pairs_in ms)) || is_among n (numbers a))
stands_over n a [] = refl
stands_over n a (m ∷ ms) =
    stands_over n (pair_in m.pair ∷ a) ms ∙ moved (is_among n (numbers (pairs_in ms))) (n == number_in (pair_in m.pair)) (is_among n (numbers a))

pub stands_newest : (n : ℕ) (ms : List Member) → AreNumbered ms → is_among n (numbers (newest [] ms)) ≡ is_among n (member_numbers ms)
stands_newest n ms all =
    stands_over n [] ms ∙ or_false (is_among n (numbers (pairs_in ms))) ∙ ap (λ (z : List ℕ). is_among n z) (sym (numbers_are ms all))

module _ (accepted : List Accepted) (entries : List (Pair × Unit {0})) (has : HasAccepted accepted entries) where
  arrived_over : (n : ℕ) (a : List Accepted) (ms : List Member) → AreNumbered ms → has_arrived n (newest a ms) accepted ≡ (arrived_in n ms entries || has_arrived n a accepted)
  arrived_over n a [] all = refl
  arrived_over n a (m ∷ ms) all =
      let number : m.number ≡ number_in (pair_in m.pair) = all.0 in
      let pair : is_accepted m.pair entries ≡ has_pair (pair_in m.pair) accepted = has m.pair in
      let own = sym number in
      let kept = sym pair in
      arrived_over n (pair_in m.pair ∷ a) ms all.1
      ∙ moved (arrived_in n ms entries) ((number_in (pair_in m.pair) == n) && has_pair (pair_in m.pair) accepted) (has_arrived n a accepted)
      ∙ (λ j. (((own j == n) && kept j) || arrived_in n ms entries) || has_arrived n a accepted)

  arrived_newest : (n : ℕ) (ms : List Member) → AreNumbered ms → has_arrived n (newest [] ms) accepted ≡ arrived_in n ms entries
  arrived_newest n ms all = arrived_over n [] ms all ∙ or_false (arrived_in n ms entries)

  pub all_newest : (total : ℕ) (ms : List Member) → AreNumbered ms → all_arrived total (newest [] ms) accepted ≡ all_arrived_in total ms entries
  all_newest zero ms all = refl
  all_newest (suc n) ms all =
      let here : has_arrived (suc n) (newest [] ms) accepted ≡ arrived_in (suc n) ms entries = arrived_newest (suc n) ms all in
      let rest : all_arrived n (newest [] ms) accepted ≡ all_arrived_in n ms entries = all_newest n ms all in
      λ j. here j && rest j

-- ---- all of them, from the first number on

pub next_number : (n : ℕ) (ms : List Member) (entries : List (Pair × Unit {0})) → arrived_in (suc n) ms entries ≡ arrived_in (n + 1) ms entries
next_number n ms entries = ap (λ (k : ℕ). arrived_in k ms entries) (sym (one_more n))
  where
    one_more : (n : ℕ) → n + 1 ≡ suc n
    one_more n = omega arith

pub one_fails : (total n : ℕ) (ms : List Member) (entries : List (Pair × Unit {0})) → n < total → arrived_in (suc n) ms entries ≡ false → all_arrived_in total ms entries ≡ false
one_fails zero n ms entries l f = absurd (omega (arith, l))
one_fails (suc total) n ms entries l f = ⊎_elim
    (λ (e : n ≡ total). ap (λ (b : Bool). b && all_arrived_in total ms entries) (ap (λ (k : ℕ). arrived_in (suc k) ms entries) (sym e) ∙ f))
    (λ (ne : n ≡ total → ⊥).
    ap (λ (b : Bool). arrived_in (suc total) ms entries && b) (one_fails total n ms entries (below n total l ne) f) ∙ never (arrived_in (suc total) ms entries))
    (cases_eq n total)
  where
    below : (n total : ℕ) → n < suc total → ¬ (n ≡ total) → n < total
    below n total l ne = omega (arith, l, ne)

    never : (b : Bool) → (b && false) ≡ false
    never true = refl
    never false = refl

-- ---- one more

numbered_last : (ms : List Member) (m : Member) → AreNumbered ms → m.number ≡ number_in (pair_in m.pair) → AreNumbered (ms ++ m ∷ [])
numbered_last [] m all e = (e, tt)
numbered_last (x ∷ ms) m all e = (all.0, numbered_last ms m all.1 e)

-- the round of the definition with one part more
pub rounds_on : (m : Member) (ms : List Member) (p : Accepted) (r : Rounds) → pair_in m.pair ≡ p → m.number ≡ number_in p → newest [] ms ≡ r.present → AreNumbered ms
    → (newest [] (with_member m ms) ≡ (rounded p r).present) × AreNumbered (with_member m ms)
rounds_on m ms p r pair number same all =
    let b : Bool = is_among m.number (member_numbers ms) in
    let c : Bool = is_among (number_in p) (numbers r.present) in
    let begun : Rounds = record { present = p ∷ []; finished = r.present ∷ r.finished } in
    let gone_on : Rounds = record { present = p ∷ r.present; finished = r.finished } in
    let own : m.number ≡ number_in (pair_in m.pair) = number ∙ ap number_in (sym pair) in
    let alike : b ≡ c = sym (stands_newest m.number ms all) ∙ (λ j. is_among (number j) (numbers (same j))) in
    ⊎_elim
    (λ (t : b ≡ true).
    let is : with_member m ms ≡ m ∷ [] = cond-true b (m ∷ []) (ms ++ m ∷ []) t in
    let to : rounded p r ≡ begun = cond-true c begun gone_on (sym alike ∙ t) in (
      ap (λ (z : List Member). newest [] z) is ∙ ap (λ (z : Accepted). z ∷ []) pair ∙ ap (λ (z : Rounds). z.present) (sym to),
      subst (λ (z : List Member). AreNumbered z) (sym is) (own, tt),
    ))
    (λ (f : b ≡ false).
    let is : with_member m ms ≡ ms ++ m ∷ [] = cond-false b (m ∷ []) (ms ++ m ∷ []) f in
    let to : rounded p r ≡ gone_on = cond-false c begun gone_on (sym alike ∙ f) in (
      ap (λ (z : List Member). newest [] z) is ∙ newest_last [] ms m ∙ (λ j. pair j ∷ same j) ∙ ap (λ (z : Rounds). z.present) (sym to),
      subst (λ (z : List Member). AreNumbered z) (sym is) (numbered_last ms m all own),
    ))
    (cases_Bool b)

-- ---- what was accepted of one key

module _ (handset : List ℕ) (k : Key) where
  abbrev pub AllFor : List Accepted → Type 0
  AllFor [] = Unit {0}
  AllFor (p ∷ ps) = (is_for handset k p ≡ true) × AllFor ps

  one_for : (p : Accepted) (ps : List Accepted) (b : Bool) → is_for handset k p ≡ b → AllFor ps → AllFor (cond b (p ∷ ps) ps)
  one_for p ps true e all = (e, all)
  one_for p ps false e all = all

  all_for : (ps : List Accepted) → AllFor (of_key handset k ps)
  all_for [] = tt
  all_for (p ∷ ps) = one_for p (of_key handset k ps) (is_for handset k p) refl (all_for ps)

  one_round : (p : Accepted) (r : Rounds) (b : Bool) → is_for handset k p ≡ true → AllFor r.present
      → AllFor (cond {A = Rounds} b (record { present = p ∷ []; finished = r.present ∷ r.finished }) (record { present = p ∷ r.present; finished = r.finished })).present
  one_round p r true e all = (e, tt)
  one_round p r false e all = (e, all)

  all_rounds : (ps : List Accepted) → AllFor ps → AllFor (rounds ps).present
  all_rounds [] all = tt
  all_rounds (p ∷ ps) all = one_round p (rounds ps) (is_among (number_in p) (numbers (rounds ps).present)) all.0 (all_rounds ps all.1)

  pub round_for : (ps : List Accepted) → AllFor (rounds (of_key handset k ps)).present
  round_for ps = all_rounds (of_key handset k ps) (all_for ps)

  not_same : (p q : Accepted) → is_for handset k p ≡ true → is_for handset k q ≡ false → is_same_pair p q ≡ false
  not_same p q there other = ⊎_elim
      (λ (t : is_same_pair p q ≡ true).
      absurd (both_ways (is_for handset k q) other (subst (λ (z : Accepted). is_for handset k z ≡ true) (pair_same p q t) there)))
      (λ (f : is_same_pair p q ≡ false). f)
      (cases_Bool (is_same_pair p q))

  has_of_key : (p : Accepted) (qs : List Accepted) → is_for handset k p ≡ true → has_pair p (of_key handset k qs) ≡ has_pair p qs
  has_of_key p [] there = refl
  has_of_key p (q ∷ qs) there = ⊎_elim
      (λ (t : is_for handset k q ≡ true).
      ap (λ (z : List Accepted). has_pair p z) (cond-true (is_for handset k q) (q ∷ of_key handset k qs) (of_key handset k qs) t)
      ∙ ap (λ (z : Bool). is_same_pair p q || z) (has_of_key p qs there))
      (λ (f : is_for handset k q ≡ false).
      ap (λ (z : List Accepted). has_pair p z) (cond-false (is_for handset k q) (q ∷ of_key handset k qs) (of_key handset k qs) f)
      ∙ has_of_key p qs there ∙ ap (λ (z : Bool). z || has_pair p qs) (sym (not_same p q there f)))
      (cases_Bool (is_for handset k q))

  arrived_of_key : (n : ℕ) (ps accepted : List Accepted) → AllFor ps → has_arrived n ps (of_key handset k accepted) ≡ has_arrived n ps accepted
  arrived_of_key n [] accepted all = refl
  arrived_of_key n (p ∷ ps) accepted all =
      let here : has_pair p (of_key handset k accepted) ≡ has_pair p accepted = has_of_key p accepted all.0 in
      let rest : has_arrived n ps (of_key handset k accepted) ≡ has_arrived n ps accepted = arrived_of_key n ps accepted all.1 in
      λ j. ((number_in p == n) && here j) || rest j

  pub all_of_key : (total : ℕ) (ps accepted : List Accepted) → AllFor ps → all_arrived total ps (of_key handset k accepted) ≡ all_arrived total ps accepted
  all_of_key zero ps accepted all = refl
  all_of_key (suc n) ps accepted all =
      let here : has_arrived (suc n) ps (of_key handset k accepted) ≡ has_arrived (suc n) ps accepted = arrived_of_key (suc n) ps accepted all in
      let rest : all_arrived n ps (of_key handset k accepted) ≡ all_arrived n ps accepted = all_of_key n ps accepted all in
      λ j. here j && rest j
