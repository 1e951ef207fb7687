-- A part may begin a round exactly where that is decided.
use Rattle.std.proofs.Common.{◌≡◌, ◌⊎◌, ℕ, zero, suc, ◌≤◌, arith, List, [], ◌∷◌, Bool, true, false, cond, refl, sym, ◌∙◌, ap, subst, inl, inr, ⊎_elim, Option, Some, None}
use Rattle.std.specs.Prelude.{◌==◌, ◌&&◌}
use Rattle.std.specs.Str.{bytes_eq}
use Rattle.std.proofs.lemmas.Bool.{and_from, and_parts, cases_Bool, cases_eq, cond-false, cond-true, eq-eqb, eqb-true, or_cases, or_left, or_right}
use Rattle.std.proofs.lemmas.Slice.Eq.{bytes_eq-Decides}
use Rattle.sms_base.specs.Among.{Among}
use Rattle.sms_play.specs.Premises.{all_arrived, are_fresh, has_arrived, has_pair, is_same_pair, may_begin, may_begin_at, may_begin_round}
use Rattle.sms_world.specs.premises_are_decided.PremiseLaws.{AlikeLaw, FreshLaw, MayBeginLaw, parts_given}
use Rattle.sms_world_model.specs.Premises.{AllArrived, FreshParts, MayBegin}
use Rattle.sms_world_model.specs.Groups.{is_among, is_for, number_in, numbers, of_key, Rounds, rounds, rounds_of, submitted_pairs, with_part_of}
use Rattle.sms_world_model.specs.Place.{Key, Place, has_key, place_in}
use Rattle.sms_world_model.specs.References.{Ticket, part_allocation}
use Rattle.sms_world_model.specs.Submission.{Submission}
use Rattle.sms_world_model.specs.World.{Accepted, Allocation, pair_given}
use Rattle.sms_world_model.proofs.Keys.{one_key, same_key}
use Rattle.sms_play.proofs.judging.Members.{one_pair, pair_same}

-- ---- pairs

has_it : (p : Accepted) (qs : List Accepted) → has_pair p qs ≡ true → Among p qs
has_it p [] e = absurd cc
has_it p (q ∷ qs) e = ⊎_elim
    (λ (t : is_same_pair p q ≡ true). inl (pair_same p q t))
    (λ (t : has_pair p qs ≡ true). inr (has_it p qs t))
    (or_cases (is_same_pair p q) (has_pair p qs) e)

it_has : (p : Accepted) (qs : List Accepted) → Among p qs → has_pair p qs ≡ true
it_has p [] i = absurd i
it_has p (q ∷ qs) i = ⊎_elim
    (λ (e : p ≡ q). or_left (is_same_pair p q) (has_pair p qs) (ap (λ (z : Accepted). is_same_pair p z) (sym e) ∙ one_pair p))
    (λ (m : Among p qs). or_right (is_same_pair p q) (has_pair p qs) (it_has p qs m)) i

-- ---- which parts arrived

abbrev Arrived : ℕ → List Accepted → List Accepted → Type 0
Arrived n ps accepted = (q : Accepted) × (Among q ps × (number_in q ≡ n) × Among q accepted)

arrived_is : (n : ℕ) (ps accepted : List Accepted) → has_arrived n ps accepted ≡ true → Arrived n ps accepted
arrived_is n [] accepted e = absurd cc
arrived_is n (p ∷ ps) accepted e = ⊎_elim
    (λ (t : ((number_in p == n) && has_pair p accepted) ≡ true).
    let x = and_parts (number_in p == n) (has_pair p accepted) t in
    (p, (inl refl, eqb-true (number_in p) n x.0, has_it p accepted x.1)))
    (λ (t : has_arrived n ps accepted ≡ true). let x = arrived_is n ps accepted t in (x.0, (inr x.1.0, x.1.1, x.1.2)))
    (or_cases ((number_in p == n) && has_pair p accepted) (has_arrived n ps accepted) e)

is_arrived : (n : ℕ) (ps accepted : List Accepted) → Arrived n ps accepted → has_arrived n ps accepted ≡ true
is_arrived n [] accepted (q, i) = absurd i.0
is_arrived n (p ∷ ps) accepted (q, i) = ⊎_elim
    (λ (e : q ≡ p).
    or_left ((number_in p == n) && has_pair p accepted) (has_arrived n ps accepted)
    (and_from (number_in p == n) (has_pair p accepted) (eq-eqb (number_in p) n (ap number_in (sym e) ∙ i.1)) (it_has p accepted (subst (λ (z : Accepted). Among z accepted) e i.2))))
    (λ (m : Among q ps). or_right ((number_in p == n) && has_pair p accepted) (has_arrived n ps accepted) (is_arrived n ps accepted (q, (m, i.1, i.2)))) i.0

all_is : (total : ℕ) (ps accepted : List Accepted) → all_arrived total ps accepted ≡ true → AllArrived total ps accepted
all_is zero ps accepted e n above under = absurd (omega arith)
all_is (suc total) ps accepted e n above under =
    let x = and_parts (has_arrived (suc total) ps accepted) (all_arrived total ps accepted) e in
    ⊎_elim
    (λ (q : n ≡ suc total). arrived_is n ps accepted (ap (λ (z : ℕ). has_arrived z ps accepted) q ∙ x.0))
    (λ (q : n ≡ suc total → ⊥). all_is total ps accepted x.1 n above (below n total under q))
    (cases_eq n (suc total))
  where
    below : (n total : ℕ) → n ≤ suc total → ¬ (n ≡ suc total) → n ≤ total
    below n total under q = omega (arith, under, q)

is_all : (total : ℕ) (ps accepted : List Accepted) → AllArrived total ps accepted → all_arrived total ps accepted ≡ true
is_all zero ps accepted a = refl
is_all (suc total) ps accepted a =
    and_from (has_arrived (suc total) ps accepted) (all_arrived total ps accepted) (is_arrived (suc total) ps accepted (a (suc total) (omega arith) (omega arith)))
    (is_all total ps accepted (λ n above under. a n above (omega arith)))

-- ---- a round of one key

round_is : (p : Accepted) (k : Key) (down : List Allocation) (accepted : List Accepted) → may_begin_round p k down accepted ≡ true
    → is_among (number_in p) (numbers (rounds_of p.handset k down).present) ≡ true → AllArrived k.total (rounds_of p.handset k down).present (of_key p.handset k accepted)
round_is p k down accepted e among =
    all_is k.total (rounds_of p.handset k down).present (of_key p.handset k accepted)
    (sym (cond-true (is_among (number_in p) (numbers (rounds_of p.handset k down).present)) (all_arrived k.total (rounds_of p.handset k down).present (of_key p.handset k accepted)) true among) ∙ e)

is_round : (p : Accepted) (k : Key) (down : List Allocation) (accepted : List Accepted)
    → (is_among (number_in p) (numbers (rounds_of p.handset k down).present) ≡ true → AllArrived k.total (rounds_of p.handset k down).present (of_key p.handset k accepted))
    → may_begin_round p k down accepted ≡ true
is_round p k down accepted a =
    let b = is_among (number_in p) (numbers (rounds_of p.handset k down).present) in
    let all = all_arrived k.total (rounds_of p.handset k down).present (of_key p.handset k accepted) in
    ⊎_elim
    (λ (t : b ≡ true). cond-true b all true t ∙ is_all k.total (rounds_of p.handset k down).present (of_key p.handset k accepted) (a t))
    (λ (f : b ≡ false). cond-false b all true f)
    (cases_Bool b)

-- ---- a part, of the key that it has

module _ (p : Accepted) (down : List Allocation) (accepted : List Accepted) where
  no_key : (k : Key) → place_in p.tpdu ≡ None → is_for p.handset k p ≡ true → ⊥
  no_key k e i =
      let x = and_parts (bytes_eq p.handset p.handset) (has_key k (place_in p.tpdu)) i in
      let y : has_key k None ≡ true = ap (λ (z : Option Place). has_key k z) (sym e) ∙ x.1 in absurd cc

  its_key : (k : Key) (place : Place) → place_in p.tpdu ≡ Some place → is_for p.handset k p ≡ true → place.key ≡ k
  its_key k place e i =
      let x = and_parts (bytes_eq p.handset p.handset) (has_key k (place_in p.tpdu)) i in
      same_key place.key k (ap (λ (z : Option Place). has_key k z) (sym e) ∙ x.1)

  has_it_own : (place : Place) → place_in p.tpdu ≡ Some place → is_for p.handset place.key p ≡ true
  has_it_own place e =
      and_from (bytes_eq p.handset p.handset) (has_key place.key (place_in p.tpdu)) ((bytes_eq-Decides p.handset p.handset).1 refl)
      (ap (λ (z : Option Place). has_key place.key z) e ∙ one_key place.key)

  begins : (o : Option Place) → place_in p.tpdu ≡ o → may_begin_at o p down accepted ≡ true → MayBegin down accepted p
  begins None e b k i among = absurd (no_key k e i)
  begins (Some place) e b k i among =
      let q : place.key ≡ k = its_key k place e i in
      round_is p k down accepted (ap (λ (z : Key). may_begin_round p z down accepted) (sym q) ∙ b) among

  is_begun : (o : Option Place) → place_in p.tpdu ≡ o → MayBegin down accepted p → may_begin_at o p down accepted ≡ true
  is_begun None e m = refl
  is_begun (Some place) e m = is_round p place.key down accepted (m place.key (has_it_own place e))

pub begins_decided : MayBeginLaw
begins_decided p down accepted = (begins p down accepted (place_in p.tpdu) refl, is_begun p down accepted (place_in p.tpdu) refl)

-- ---- all parts of a submission

fresh_is : (s : Submission) (moment n : ℕ) (ts : List Ticket) (down : List Allocation) (accepted : List Accepted) → are_fresh (parts_given s moment n ts) down accepted ≡ true
    → FreshParts s moment n ts down accepted
fresh_is s moment n [] down accepted e = tt
fresh_is s moment n (t ∷ ts) down accepted e =
    let g : Allocation = part_allocation s moment n t in
    let x = and_parts (may_begin (pair_given g) down accepted) (are_fresh (parts_given s moment (suc n) ts) (g ∷ down) accepted) e in
    ((begins_decided (pair_given g) down accepted).0 x.0, fresh_is s moment (suc n) ts (g ∷ down) accepted x.1)

is_fresh : (s : Submission) (moment n : ℕ) (ts : List Ticket) (down : List Allocation) (accepted : List Accepted) → FreshParts s moment n ts down accepted
    → are_fresh (parts_given s moment n ts) down accepted ≡ true
is_fresh s moment n [] down accepted f = refl
is_fresh s moment n (t ∷ ts) down accepted f =
    let g : Allocation = part_allocation s moment n t in
    and_from (may_begin (pair_given g) down accepted) (are_fresh (parts_given s moment (suc n) ts) (g ∷ down) accepted) ((begins_decided (pair_given g) down accepted).1 f.0)
    (is_fresh s moment (suc n) ts (g ∷ down) accepted f.1)

pub fresh_decided : FreshLaw
fresh_decided s moment n ts down accepted = (fresh_is s moment n ts down accepted, is_fresh s moment n ts down accepted)

-- ---- what it looks at

module _ (accepted others : List Accepted) (same : (handset : List ℕ) (k : Key) → of_key handset k accepted ≡ of_key handset k others) where
  round_alike : (p : Accepted) (k : Key) (down other : List Allocation) → submitted_pairs down ≡ submitted_pairs other → may_begin_round p k down accepted ≡ may_begin_round p k other others
  round_alike p k down other e =
      let r : rounds_of p.handset k down ≡ rounds_of p.handset k other = ap (λ (z : List Accepted). rounds (of_key p.handset k z)) e in
      ap (λ (z : Rounds). cond (is_among (number_in p) (numbers z.present)) (all_arrived k.total z.present (of_key p.handset k accepted)) true) r
      ∙ ap (λ (z : List Accepted). cond (is_among (number_in p) (numbers (rounds_of p.handset k other).present)) (all_arrived k.total (rounds_of p.handset k other).present z) true) (same p.handset k)

  begins_alike : (p : Accepted) (o : Option Place) (down other : List Allocation) → submitted_pairs down ≡ submitted_pairs other → may_begin_at o p down accepted ≡ may_begin_at o p other others
  begins_alike p None down other e = refl
  begins_alike p (Some place) down other e = round_alike p place.key down other e

  all_alike : (gs down other : List Allocation) → submitted_pairs down ≡ submitted_pairs other → are_fresh gs down accepted ≡ are_fresh gs other others
  all_alike [] down other e = refl
  all_alike (g ∷ gs) down other e =
      let p : Accepted = pair_given g in
      let more : submitted_pairs (g ∷ down) ≡ submitted_pairs (g ∷ other) = one_more g down other e in
      ap (λ (z : Bool). z && are_fresh gs (g ∷ down) accepted) (begins_alike p (place_in p.tpdu) down other e)
      ∙ ap (λ (z : Bool). may_begin p other others && z) (all_alike gs (g ∷ down) (g ∷ other) more)
    where
      one_more : (g : Allocation) (down other : List Allocation) → submitted_pairs down ≡ submitted_pairs other → submitted_pairs (g ∷ down) ≡ submitted_pairs (g ∷ other)
      one_more g down other e = ap (λ (z : List Accepted). with_part_of g.holder (pair_given g) z) e

pub alike_decided : AlikeLaw
alike_decided gs down other accepted others e same = all_alike accepted others same gs down other e
