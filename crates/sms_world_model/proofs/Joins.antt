-- While frames come in time and originators keep references fresh, what is joined is what was submitted.
use Rattle.std.proofs.Common.{◌≡◌, ◌⊎◌, ℕ, zero, suc, ◌<◌, ◌≤◌, List, [], ◌∷◌, true, false, refl, sym, ◌∙◌, ap, subst, inl, inr, ⊎_elim, Option, Some, None, eq-eqb, eqb-true, arith}
use Rattle.std.specs.Prelude.{◌==◌}
use Rattle.std.proofs.lemmas.Bool.{cases_Bool, cond-true, cond-false, both_ways}
use Rattle.sms_base.specs.Among.{Among}
use Rattle.sms_base.specs.declared.holder.Holder.{Holder}
use Rattle.sms_base.specs.declared.holder.Holder.TheVariants.{Part, Report, Entry, Memory}
use Rattle.sms_concat.specs.declared.content.Part.{Part as PartOf}
use Rattle.sms_tpdu.specs.declared.deliver.Deliver.{Deliver as DeliverOf}
use Rattle.sms_world_model.specs.Groups.{is_among, number_in, is_for, of_key, numbers, groups, groups_of, carried_by, parts_to, rounds, with_part_of, submitted_pairs, rounds_of, SameItems}
use Rattle.sms_world_model.specs.Submission.{Submission}
use Rattle.sms_world_model.specs.Place.{Key, Place, place_in, carried_in, with_part, joined_parts}
use Rattle.sms_world_model.specs.World.{Allocation, Accepted, Joined, World, give, pair_of, pair_given, empty}
use Rattle.sms_world_model.specs.References.{IsEarlier, Ticket, part_allocation, CanGiveParts, given_parts}
use Rattle.sms_world_model.specs.WorldStep.{Step, Submit, Take, Receive, Can, after, CanSubmit, submitted, enter, Item, after_item, Run, end}
use Rattle.sms_world_model.specs.Premises.{Timely, AllArrived, MayBegin, FreshParts, SubmitsFresh, Fresh}
use Rattle.sms_world_model.specs.Agreement.{IsPartFrom, JoinedSubmitted}
use Rattle.sms_world_model.proofs.Sound.{IsSound, Offered, IsKnown}
use Rattle.sms_world_model.proofs.Keeps.{sound_enter, says_data, arrived_for}
use Rattle.sms_world_model.proofs.Runs.{sound_item}
use Rattle.sms_world_model.proofs.Faithful.{IsFaithful, IsDeliver, HasMoment, one_deliver, part_moment, known_moment, moments_more, was_earlier, offered_more, faithful_step}
use Rattle.sms_world_model.proofs.Keys.{bounds, for_is, deliver_for, report_place}
use Rattle.sms_world_model.proofs.Places.{IsPlaced, of_key_in, of_key_out, among_of_key, to_of_key, group_ended}
use Rattle.sms_world_model.proofs.Rounds.{Match, Lined, match_arrive, match_submit, lined_to, rounds_differ, Differ, by_cases_round, one_with, test_with}

-- ---- what was submitted

with_old : (hd : Holder) (p q : Accepted) (ps : List Accepted) → Among q ps → Among q (with_part_of hd p ps)
with_old (Part id n) p q ps i = inr i
with_old (Report id) p q ps i = i
with_old (Entry n) p q ps i = i
with_old (Memory n) p q ps i = i

with_new : (id n : ℕ) (hd : Holder) (p q : Accepted) (ps : List Accepted) → hd ≡ Part id n → q ≡ p → Among q (with_part_of hd p ps)
with_new id n hd p q ps e d = subst (λ y. Among q (with_part_of y p ps)) (sym e) (inl d)

with_cases : (hd : Holder) (p q : Accepted) (ps : List Accepted) → Among q (with_part_of hd p ps) → ((id : ℕ) × (n : ℕ) × ((hd ≡ Part id n) × (q ≡ p))) ⊎ Among q ps
with_cases (Part id n) p q ps i = ⊎_elim (λ (e : q ≡ p). inl (id, n, (refl, e))) (λ (j : Among q ps). inr j) i
with_cases (Report id) p q ps i = inr i
with_cases (Entry n) p q ps i = inr i
with_cases (Memory n) p q ps i = inr i

-- what is offered for a part was submitted
pub pair_among : (dn : List Allocation) (g : Allocation) (id n : ℕ) → Among g dn → g.holder ≡ Part id n → Among (pair_given g) (submitted_pairs dn)
pair_among [] g id n i e = absurd i
pair_among (x ∷ dn) g id n i e =
    ⊎_elim
    (λ (d : g ≡ x). with_new id n x.holder (pair_given x) (pair_given g) (submitted_pairs dn) (ap (λ (y : Allocation). y.holder) (sym d) ∙ e) (ap (λ (y : Allocation). pair_given y) d))
    (λ (j : Among g dn). with_old x.holder (pair_given x) (pair_given g) (submitted_pairs dn) (pair_among dn g id n j e))
    i

pub pair_from : (dn : List Allocation) (x : Accepted) → Among x (submitted_pairs dn) → (g : Allocation) × (id : ℕ) × (n : ℕ) × (Among g dn × (g.holder ≡ Part id n) × (x ≡ pair_given g))
pair_from [] x i = absurd i
pair_from (g ∷ dn) x i =
    ⊎_elim
    (λ (e : (id : ℕ) × (n : ℕ) × ((g.holder ≡ Part id n) × (x ≡ pair_given g))). (g, e.0, e.1, (inl refl, e.2.0, e.2.1)))
    (λ (j : Among x (submitted_pairs dn)). let y = pair_from dn x j in (y.0, y.1, y.2, (inr y.3.0, y.3.1, y.3.2)))
    (with_cases g.holder (pair_given g) x (submitted_pairs dn) i)

no_place : (o : Option Place) (p : Place) → o ≡ None → o ≡ Some p → ⊥
no_place o p a b = cc

-- a pair with a key is that of a part
key_part : (w : World) → IsSound w → (g : Allocation) → Among g w.down → (h : List ℕ) (k : Key) → is_for h k (pair_given g) ≡ true → (id : ℕ) × (n : ℕ) × (g.holder ≡ Part id n)
key_part w sound g i h k e = at g.holder refl (sound.known g i)
  where
    at : (y : Holder) → g.holder ≡ y → IsKnown w.table w.receipts g y → (id : ℕ) × (n : ℕ) × (g.holder ≡ Part id n)
    at (Part id n) is x = (id, n, is)
    at (Report id) is x =
        absurd (no_place (place_in g.tpdu) (record { key = k; number = number_in (pair_given g) }) (report_place g.tpdu x.1.0 x.1.1) (for_is h k (pair_given g) e).1)
    at (Entry n) is x = absurd x
    at (Memory n) is x = absurd x

pub rounds_all_within : (ps : List Accepted) → ((q : Accepted) → Among q (rounds ps).present → Among q ps) × ((r : List Accepted) (q : Accepted) → Among r (rounds ps).finished → Among q r → Among q ps)
rounds_all_within [] = ((λ q i. i), (λ r q i j. absurd i))
rounds_all_within (p ∷ ps) =
    let old = rounds_all_within ps in
    by_cases_round (λ r'. ((q : Accepted) → Among q r'.present → Among q (p ∷ ps)) × ((r : List Accepted) (q : Accepted) → Among r r'.finished → Among q r → Among q (p ∷ ps))) p (rounds ps)
    (λ _. (
      (λ q i. ⊎_elim (λ (e : q ≡ p). inl e) (λ (e : ⊥). absurd e) i),
      (λ r q i j. ⊎_elim (λ (e : r ≡ (rounds ps).present). inr (old.0 q (subst (λ l. Among q l) e j))) (λ (k : Among r (rounds ps).finished). inr (old.1 r q k j)) i),
    ))
    (λ _. (
      (λ q i. ⊎_elim (λ (e : q ≡ p). inl e) (λ (k : Among q (rounds ps).present). inr (old.0 q k)) i),
      (λ r q i j. inr (old.1 r q i j)),
    ))

-- ---- groups and rounds

abbrev pub MatchesAll : List Allocation → List Accepted → Type 0
MatchesAll down accepted =
    (h : List ℕ) (k : Key) → Match k.total (groups_of h k accepted) (rounds_of h k down) (of_key h k accepted)

abbrev pub IsMatched : World → Type 0
IsMatched w = MatchesAll w.down w.accepted

-- a part that is submitted
matches_pair : (dn : List Allocation) (ac : List Accepted) (p : Accepted) → MatchesAll dn ac → MayBegin dn ac p → ¬ Among p ac
    → (h : List ℕ) (k : Key) → Match k.total (groups_of h k ac) (rounds (of_key h k (p ∷ submitted_pairs dn))) (of_key h k ac)
matches_pair dn ac p old begins new h k =
    ⊎_elim
    (λ (e : is_for h k p ≡ true).
    let b = bounds h k p e in
    let mine : is_for p.handset k p ≡ true = subst (λ a. is_for a k p ≡ true) (sym b.0) e in
    subst (λ ps. Match k.total (groups_of h k ac) (rounds ps) (of_key h k ac)) (sym (of_key_in h k p (submitted_pairs dn) e))
    (match_submit k.total (of_key h k (submitted_pairs dn)) (of_key h k ac) p (old h k)
    (λ i. new (among_of_key h k p ac i).0)
    b.1 b.2
    (subst (λ a. is_among (number_in p) (numbers (rounds_of a k dn).present) ≡ true → AllArrived k.total (rounds_of a k dn).present (of_key a k ac)) b.0 (begins k mine))))
    (λ (e : is_for h k p ≡ false).
    subst (λ ps. Match k.total (groups_of h k ac) (rounds ps) (of_key h k ac)) (sym (of_key_out h k p (submitted_pairs dn) e)) (old h k))
    (cases_Bool (is_for h k p))

-- a DELIVER of a later moment is not that of an earlier giving
pub not_given : (dn : List Allocation) (g : Allocation) (d : DeliverOf) → ((x : Allocation) → Among x dn → HasMoment x) → HasMoment g → IsDeliver g.tpdu d → IsEarlier dn g.handset g.reference g.moment
    → (x : Allocation) → Among x dn → pair_given g ≡ pair_given x → ⊥
not_given dn g d moments mine is earlier x i e =
    let l = was_earlier dn x g.handset g.reference g.moment earlier i (ap (λ (p : Accepted). p.handset) (sym e)) (ap (λ (p : Accepted). p.reference) (sym e)) in
    let m = mine d is in
    let k = moments x i d (subst (λ z. IsDeliver z d) (ap (λ (p : Accepted). p.tpdu) e) is) in
    absurd (omega (arith, l, m, k))

-- nor was it accepted
pub not_yet : (dn : List Allocation) (ac : List Accepted) (g : Allocation) (d : DeliverOf) → ((q : Accepted) → Among q ac → Offered dn q) → ((x : Allocation) → Among x dn → HasMoment x)
    → HasMoment g → IsDeliver g.tpdu d → IsEarlier dn g.handset g.reference g.moment → ¬ Among (pair_given g) ac
not_yet dn ac g d offered moments mine is earlier i = let y = offered (pair_given g) i in not_given dn g d moments mine is earlier y.0 y.1.0 y.1.1

joins_parts : (w : World) (s : Submission) (m n : ℕ) (ts : List Ticket) → IsMatched w → ((x : Allocation) → Among x w.down → HasMoment x)
    → ((p : Accepted) → Among p w.accepted → Offered w.down p) → CanGiveParts w s m n ts → FreshParts s m n ts w.down w.accepted
    → MatchesAll (given_parts s m n ts w.down) w.accepted
joins_parts w s m n [] h moments offered can fresh = h
joins_parts w s m n (t ∷ ts) h moments offered can fresh =
    let g : Allocation = part_allocation s m n t in
    let mine : HasMoment g = (λ d e. part_moment s n m t.tpdu d can.1 e) in
    let deliver = can.1.1.1 in
    joins_parts (give w g) s m (suc n) ts
    (matches_pair w.down w.accepted (pair_given g) h fresh.0 (not_yet w.down w.accepted g deliver.deliver offered moments mine deliver.reads can.0.2))
    (moments_more w.down g mine moments)
    (λ p i. offered_more w.down (g ∷ w.down) p (λ _ y. inr y) (offered p i))
    can.2
    fresh.1

joins_submit : (w : World) (m : ℕ) (s : Submission) (ts : List Ticket) → IsSound w → IsMatched w → CanSubmit w m s ts → FreshParts s m 1 ts w.down w.accepted → IsMatched (submitted w m s ts)
joins_submit w m s ts sound h can fresh =
    let v = enter w s in
    let new = sound_enter w s sound can.0 in
    joins_parts v s m 1 ts h (λ x i. known_moment v new x i) new.offered can.3 fresh

-- a pair is accepted that was offered for a giving, and stood nowhere
joins_take : (w : World) (p : Accepted) (g : Allocation) → IsSound w → IsMatched w → Among g w.down → p ≡ pair_given g
    → ((d : DeliverOf) → IsDeliver p.tpdu d → ¬ Among p w.accepted) → MatchesAll w.down (p ∷ w.accepted)
joins_take w p g sound h i is new b k =
    ⊎_elim
    (λ (e : is_for b k p ≡ true).
    let d = deliver_for b k p e in
    let part = key_part w sound g i b k (subst (λ q. is_for b k q ≡ true) is e) in
    let there : Among p (submitted_pairs w.down) = subst (λ (q : Accepted). Among q (submitted_pairs w.down)) (sym is) (pair_among w.down g part.0 part.1 i part.2) in
    subst (λ ps. Match k.total (groups k.total ps) (rounds_of b k w.down) ps) (sym (of_key_in b k p w.accepted e))
    (match_arrive k.total (of_key b k (submitted_pairs w.down)) (of_key b k w.accepted) p (h b k)
    (to_of_key b k p (submitted_pairs w.down) there e)
    (λ j. new d.0 d.1.0 (among_of_key b k p w.accepted j).0)
    (λ q j. let x = among_of_key b k q (submitted_pairs w.down) ((rounds_all_within (of_key b k (submitted_pairs w.down))).0 q j) in
    let y = bounds b k q x.1 in (y.1, y.2))))
    (λ (e : is_for b k p ≡ false).
    subst (λ ps. Match k.total (groups k.total ps) (rounds_of b k w.down) ps) (sym (of_key_out b k p w.accepted e)) (h b k))
    (cases_Bool (is_for b k p))

pub joins_step : (w : World) (m : ℕ) (step : Step) → IsSound w → IsFaithful (after w m step) → IsMatched w → Can w m step → SubmitsFresh w m step → IsMatched (after w m step)
joins_step w m (Submit s ts) sound next h can fresh = joins_submit w m s ts sound h can fresh
joins_step w m (Receive u s ts) sound next h can fresh = joins_submit w m s ts sound h can.2 fresh
joins_step w m (Take u) sound next h can fresh =
    let says = says_data w u sound can.0 in
    joins_take w (pair_of u) says.0 sound h says.1.0 (arrived_for says.0 u says.1.1 says.1.2) next.once.0
joins_step w m _ sound next h can fresh = h

pub joins_run : (w : World) (items : List Item) → IsSound w → IsFaithful w → IsMatched w → Run w items → Timely w items → Fresh w items → IsMatched (end w items)
joins_run w [] sound f h run timely fresh = h
joins_run w (i ∷ is) sound f h run timely fresh =
    let next = faithful_step w i.moment i.step sound f run.0 timely.0 in
    joins_run (after_item w i) is (sound_item w i sound run.0) next
    (joins_step w i.moment i.step sound next h run.0 fresh.0) run.1 timely.1 fresh.1

pub joins_empty : IsMatched empty
joins_empty h k = inl (tt, (λ q i. absurd i), (λ q i. absurd i))

-- ---- contents

carried_none : (n : ℕ) (ps : List Accepted) → is_among n (numbers ps) ≡ false → carried_by n ps ≡ None
carried_none n [] e = refl
carried_none n (p ∷ ps) e =
    ⊎_elim
    (λ (t : (number_in p == n) ≡ true). absurd (both_ways (is_among n (numbers (p ∷ ps))) e (test_with p n (p ∷ ps) (inl refl) (eqb-true (number_in p) n t))))
    (λ (t : (number_in p == n) ≡ false).
    cond-false (number_in p == n) (carried_in p.tpdu) (carried_by n ps) t
    ∙ carried_none n ps (⊎_elim
    (λ (c : is_among n (numbers ps) ≡ true). let x = one_with n ps c in absurd (both_ways (is_among n (numbers (p ∷ ps))) e (test_with x.0 n (p ∷ ps) (inr x.1.0) x.1.1)))
    (λ (c : is_among n (numbers ps) ≡ false). c)
    (cases_Bool (is_among n (numbers ps)))))
    (cases_Bool (number_in p == n))

pub carried_one : (n : ℕ) (ps : List Accepted) (q : Accepted) → Differ ps → Among q ps → number_in q ≡ n → carried_by n ps ≡ carried_in q.tpdu
carried_one n [] q differ i e = absurd i
carried_one n (p ∷ ps) q differ i e =
    ⊎_elim
    (λ (t : (number_in p == n) ≡ true).
    cond-true (number_in p == n) (carried_in p.tpdu) (carried_by n ps) t
    ∙ ap (λ (x : Accepted). carried_in x.tpdu) (differ p q (inl refl) i (eqb-true (number_in p) n t ∙ sym e)))
    (λ (t : (number_in p == n) ≡ false).
    cond-false (number_in p == n) (carried_in p.tpdu) (carried_by n ps) t
    ∙ carried_one n ps q (λ a b x y. differ a b (inr x) (inr y))
    (⊎_elim
    (λ (c : q ≡ p). absurd (both_ways (number_in p == n) t (same_test (number_in p) n (ap number_in (sym c) ∙ e))))
    (λ (c : Among q ps). c)
    i) e)
    (cases_Bool (number_in p == n))
  where
    same_test : (a b : ℕ) → a ≡ b → (a == b) ≡ true
    same_test a b e = eq-eqb a b e

same_carried : (n : ℕ) (es ps : List Accepted) → Differ ps → SameItems es ps → carried_by n es ≡ carried_by n ps
same_carried n es ps differ same =
    ⊎_elim
    (λ (e : is_among n (numbers ps) ≡ true).
    let x = one_with n ps e in
    carried_one n es x.0 (λ a b i j. differ a b ((same a).0 i) ((same b).0 j)) ((same x.0).1 x.1.0) x.1.1
    ∙ sym (carried_one n ps x.0 differ x.1.0 x.1.1))
    (λ (e : is_among n (numbers ps) ≡ false).
    carried_none n es (⊎_elim
    (λ (c : is_among n (numbers es) ≡ true). let x = one_with n es c in absurd (both_ways (is_among n (numbers ps)) e (test_with x.0 n ps ((same x.0).0 x.1.0) x.1.1)))
    (λ (c : is_among n (numbers es) ≡ false). c)
    (cases_Bool (is_among n (numbers es))))
    ∙ sym (carried_none n ps e))
    (cases_Bool (is_among n (numbers ps)))

same_parts : (n : ℕ) (es ps : List Accepted) → Differ ps → SameItems es ps → parts_to n es ≡ parts_to n ps
same_parts zero es ps differ same = refl
same_parts (suc n) es ps differ same =
    ap (λ (l : Option (List PartOf)). with_part l (carried_by (suc n) es)) (same_parts n es ps differ same)
    ∙ ap (λ (c : Option PartOf). with_part (parts_to n ps) c) (same_carried (suc n) es ps differ same)

-- ---- the claim

part_from : (w : World) → IsSound w → (h : List ℕ) (k : Key) (x : Accepted) → Among x (submitted_pairs w.down) → is_for h k x ≡ true → IsPartFrom w k.source h x
part_from w sound h k x i e =
    let y = pair_from w.down x i in
    let g = y.0 in
    let known : IsKnown w.table w.receipts g (Part y.1 y.2) = subst (IsKnown w.table w.receipts g) y.3.1 (sound.known g y.3.0) in
    let d = deliver_for h k x e in
    let deliver = known.2.1.1.1 in
    let at : IsDeliver g.tpdu d.0 = subst (λ (p : Accepted). IsDeliver p.tpdu d.0) y.3.2 d.1.0 in
    let same : deliver.deliver ≡ d.0 = one_deliver g.tpdu deliver.deliver d.0 deliver.reads at in (
      g,
      y.1,
      y.2,
      known.0,
      known.1,
      known.2.1.0,
      (
        y.3.0,
        y.3.1,
        known.2.0,
        sym deliver.source ∙ ap (λ (z : DeliverOf). z.originating_address) same ∙ d.1.1,
        known.2.2 ∙ ap (λ (p : Accepted). p.handset) (sym y.3.2) ∙ (bounds h k x e).0,
        known.2.1.1.0,
        deliver,
        y.3.2,
      ),
    )

-- the round of a joined group
pub round_of : (w : World) → IsPlaced w → IsMatched w → (j : Joined) → Among j w.joined →
    (round : List Accepted) × (Among round ((rounds_of j.handset j.key w.down).present ∷ (rounds_of j.handset j.key w.down).finished) × SameItems j.group round × Differ round)
round_of w placed h j i =
    let r = rounds_of j.handset j.key w.down in
    let ended = group_ended w placed j i in
    let differ = rounds_differ (of_key j.handset j.key (submitted_pairs w.down)) in
    let found : (round : List Accepted) × (Among round (r.present ∷ r.finished) × SameItems j.group round) =
    ⊎_elim
    (λ (o : Lined (groups_of j.handset j.key w.accepted).ended r.finished × ((q : Accepted) → Among q (groups_of j.handset j.key w.accepted).present → Among q r.present) × ((q : Accepted) → Among q r.present → Among q (of_key j.handset j.key w.accepted) → Among q (groups_of j.handset j.key w.accepted).present)).
    let x = lined_to (groups_of j.handset j.key w.accepted).ended r.finished j.group o.0 ended in (x.0, (inr x.1.0, x.1.1)))
    (λ (c : ((groups_of j.handset j.key w.accepted).present ≡ []) × ((n : ℕ) → 0 < n → n ≤ j.key.total → (q : Accepted) × (Among q r.present × (number_in q ≡ n))) × Lined (groups_of j.handset j.key w.accepted).ended (r.present ∷ r.finished)).
    lined_to (groups_of j.handset j.key w.accepted).ended (r.present ∷ r.finished) j.group c.2 ended)
    (h j.handset j.key) in
    let each : Differ found.0 = ⊎_elim
    (λ (e : found.0 ≡ r.present). subst Differ (sym e) differ.0)
    (λ (e : Among found.0 r.finished). differ.1 found.0 e)
    found.1.0 in
    (found.0, (found.1.0, found.1.1, each))

pub joined_submitted : (w : World) → IsSound w → IsPlaced w → IsMatched w → JoinedSubmitted w
joined_submitted w sound placed h j i =
    let r = rounds_of j.handset j.key w.down in
    let found = round_of w placed h j i in
    let all = rounds_all_within (of_key j.handset j.key (submitted_pairs w.down)) in (
      found.0,
      (
        found.1.0,
        found.1.1,
        ap (λ (l : Option (List PartOf)). joined_parts l) (sym (same_parts j.key.total j.group found.0 found.1.2 found.1.1)) ∙ placed.content j i,
        (λ x k. let y = among_of_key j.handset j.key x (submitted_pairs w.down)
            (⊎_elim (λ (e : found.0 ≡ r.present). all.0 x (subst (λ l. Among x l) e k)) (λ (e : Among found.0 r.finished). all.1 found.0 x e k) found.1.0) in
            part_from w sound j.handset j.key x y.0 y.1),
      ),
    )
