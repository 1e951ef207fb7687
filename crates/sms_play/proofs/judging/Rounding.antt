-- A part that is submitted: whether it may have its place in the round, and the rounds with it.
use Rattle.std.proofs.Common.{◌≡◌, ℕ, List, [], ◌∷◌, Bool, true, false, cond, refl, sym, ◌∙◌, ap, subst, ⊎_elim, Option, Some, None}
use Rattle.std.specs.Prelude.{◌==◌, ◌&&◌, nat_eq}
use Rattle.std.specs.Bool.{beq}
use Rattle.std.specs.Str.{bytes_eq}
use Rattle.std.proofs.lemmas.Bool.{and_parts, cases_Bool, cond-false, cond-true}
use Rattle.std.proofs.lemmas.Slice.Eq.{bytes_eq-Decides}
use Rattle.sms_base.proofs.Bools.{and_assoc}
use Rattle.sms_base.specs.AddressKind.{type_number}
use Rattle.sms_base.specs.declared.holder.Holder.{Holder}
use Rattle.sms_base.specs.declared.holder.Holder.TheVariants.{Part, Report, Entry, Memory}
use Rattle.sms_concat.specs.Joining.{is_same_reference}
use Rattle.sms_alphabet.specs.declared.concat_key.ConcatReference.{ConcatReference}
use Rattle.sms_alphabet.specs.declared.concat_key.ConcatReference.TheVariants.{EightBit, SixteenBit}
use Rattle.sms_play.specs.Premises.{all_arrived, may_begin, may_begin_at}
use Rattle.sms_world_model.specs.Groups.{is_among, is_for, number_in, numbers, of_key, Rounds, rounded, rounds, rounds_of, submitted_pairs, with_part_of}
use Rattle.sms_world_model.specs.Place.{Key, Place as PlaceOf, has_key, is_same_key, number_of as number_of_place, place_in}
use Rattle.sms_world_model.specs.World.{Accepted, Allocation, is_same_handset, pair_given}
use Rattle.sms_world_model.proofs.Keys.{same_key}
use Rattle.sms_world_model.specs.RoundKeys.{is_same_round, is_wide, number_of, placed_at, round_key}
use Rattle.sms_play.specs.judging.Watching.{AreNumbered, HasAccepted, HasRounds, IsPart, IsPlacedAs, IsPut, Offers, all_arrived_in, begins_in, member_numbers, newest, pair_in, round_at, with_member}
use Rattle.sms_world_model.specs.declared.round_key.Place.{Place}
use Rattle.sms_world_model.specs.declared.round_key.RoundKey.{RoundKey}
use Rattle.sms_play.specs.declared.judging.watch.Member.{Member}
use Rattle.sms_play.specs.declared.judging.watch.Pair.{Pair}
use Rattle.sms_play.proofs.judging.Members.{all_newest, all_of_key, round_for, rounds_on, stands_newest}

-- ---- keys of rounds tell apart what keys and handsets tell apart

same_number : (a b : ConcatReference) → (beq (is_wide a) (is_wide b) && nat_eq (number_of a) (number_of b)) ≡ is_same_reference a b
same_number (EightBit a) (EightBit b) = refl
same_number (EightBit a) (SixteenBit b) = refl
same_number (SixteenBit a) (EightBit b) = refl
same_number (SixteenBit a) (SixteenBit b) = refl

-- a row of tests, however they are joined
regrouped : (t n d w r e s : Bool) → (w && r) ≡ s → (t && (n && (d && (w && (r && e))))) ≡ ((((t && n) && d) && s) && e)
regrouped false n d w r e s q = refl
regrouped true false d w r e s q = refl
regrouped true true false w r e s q = refl
regrouped true true true w r e s q = sym (and_assoc w r e) ∙ ap (λ (z : Bool). z && e) q

pub keys_apart : (h i : List ℕ) (k l : Key) → is_same_round (round_key h k) (round_key i l) ≡ (is_same_handset h i && is_same_key k l)
keys_apart h i k l =
    ap (λ (z : Bool). bytes_eq h i && z)
    (regrouped (type_number k.source.ton == type_number l.source.ton) (k.source.npi == l.source.npi) (bytes_eq k.source.digits l.source.digits)
    (beq (is_wide k.reference) (is_wide l.reference)) (nat_eq (number_of k.reference) (number_of l.reference)) (k.total == l.total)
    (is_same_reference k.reference l.reference) (same_number k.reference l.reference))

-- ---- whether a part may begin a round

module _ (p : Accepted) (place : PlaceOf) (there : place_in p.tpdu ≡ Some place) where
  its_number : number_in p ≡ place.number
  its_number = ap (λ (o : Option PlaceOf). number_of_place o) there

  pub begins_as : (ms : List Member) (entries : List (Pair × Unit {0})) (down : List Allocation) (accepted : List Accepted) → AreNumbered ms → HasAccepted accepted entries
      → newest [] ms ≡ (rounds_of p.handset place.key down).present
      → begins_in (record { key = round_key p.handset place.key; number = place.number }) ms entries ≡ may_begin p down accepted
  begins_as ms entries down accepted numbered has same =
      let round : List Accepted = (rounds_of p.handset place.key down).present in
      let total : ℕ = place.key.total in
      let own = sym its_number in
      let stands : is_among place.number (member_numbers ms) ≡ is_among (number_in p) (numbers round) =
      sym (stands_newest place.number ms numbered) ∙ (λ j. is_among (own j) (numbers (same j))) in
      let all : all_arrived_in total ms entries ≡ all_arrived total round (of_key p.handset place.key accepted) =
      sym (all_newest accepted entries has total ms numbered) ∙ ap (λ (z : List Accepted). all_arrived total z accepted) same
      ∙ sym (all_of_key p.handset place.key total round accepted (round_for p.handset place.key (submitted_pairs down))) in
      (λ j. cond (stands j) (all j) true) ∙ sym (ap (λ (o : Option PlaceOf). may_begin_at o p down accepted) there)

  -- ---- the rounds with it

  same_for : (handset : List ℕ) (k : Key) → is_same_round (round_key p.handset place.key) (round_key handset k) ≡ is_for handset k p
  same_for handset k = keys_apart p.handset handset place.key k ∙ ap (λ (o : Option PlaceOf). is_same_handset p.handset handset && has_key k o) (sym there)

  own_key : (handset : List ℕ) (k : Key) → is_for handset k p ≡ true → round_key p.handset place.key ≡ round_key handset k
  own_key handset k e =
      let x = and_parts (is_same_handset p.handset handset) (has_key k (place_in p.tpdu)) e in
      let h : p.handset ≡ handset = (bytes_eq-Decides p.handset handset).0 x.0 in
      let q : place.key ≡ k = same_key place.key k (ap (λ (o : Option PlaceOf). has_key k o) (sym there) ∙ x.1) in
      λ j. round_key (h j) (q j)

  on_top : (g : Allocation) (down : List Allocation) (h : Holder) → IsPart h → pair_given g ≡ p → with_part_of h (pair_given g) (submitted_pairs down) ≡ p ∷ submitted_pairs down
  on_top g down (Part id n) i e = ap (λ (z : Accepted). z ∷ submitted_pairs down) e
  on_top g down (Report id) i e = absurd i
  on_top g down (Entry n) i e = absurd i
  on_top g down (Memory n) i e = absurd i

  module _ (m : Member) (old new : List (RoundKey × List Member)) (g : Allocation) (down : List Allocation) (offers : Offers p g) (rounds_old : HasRounds down old)
      (put : IsPut (round_key p.handset place.key) m old new) (pair : pair_in m.pair ≡ p) (number : m.number ≡ place.number) where
    more : (handset : List ℕ) (k : Key) → rounds_of handset k (g ∷ down) ≡ rounds (of_key handset k (p ∷ submitted_pairs down))
    more handset k = ap (λ (z : List Accepted). rounds (of_key handset k z)) (on_top g down g.holder offers.part offers.pair)

    pub rounds_put : HasRounds (g ∷ down) new
    rounds_put handset k = ⊎_elim
        (λ (t : is_for handset k p ≡ true).
        let own : round_key p.handset place.key ≡ round_key handset k = own_key handset k t in
        let r : Rounds = rounds_of handset k down in
        let ms : List Member = round_at (round_key handset k) old in
        let was = rounds_old handset k in
        let now : round_at (round_key handset k) new ≡ with_member m ms =
        put (round_key handset k)
        ∙ cond-true (is_same_round (round_key p.handset place.key) (round_key handset k)) (with_member m (round_at (round_key p.handset place.key) old)) ms (same_for handset k ∙ t)
        ∙ ap (λ (z : RoundKey). with_member m (round_at z old)) own in
        let on = rounds_on m ms p r pair (number ∙ sym its_number) was.0 was.1 in
        let is : rounds_of handset k (g ∷ down) ≡ rounded p r =
        more handset k ∙ ap rounds (cond-true (is_for handset k p) (p ∷ of_key handset k (submitted_pairs down)) (of_key handset k (submitted_pairs down)) t) in (
          ap (λ (z : List Member). newest [] z) now ∙ on.0 ∙ ap (λ (z : Rounds). z.present) (sym is),
          subst (λ (z : List Member). AreNumbered z) (sym now) on.1,
        ))
        (λ (f : is_for handset k p ≡ false).
        let ms : List Member = round_at (round_key handset k) old in
        let was = rounds_old handset k in
        let now : round_at (round_key handset k) new ≡ ms =
        put (round_key handset k)
        ∙ cond-false (is_same_round (round_key p.handset place.key) (round_key handset k)) (with_member m (round_at (round_key p.handset place.key) old)) ms (same_for handset k ∙ f) in
        let is : rounds_of handset k (g ∷ down) ≡ rounds_of handset k down =
        more handset k ∙ ap rounds (cond-false (is_for handset k p) (p ∷ of_key handset k (submitted_pairs down)) (of_key handset k (submitted_pairs down)) f) in (
          ap (λ (z : List Member). newest [] z) now ∙ was.0 ∙ ap (λ (z : Rounds). z.present) (sym is),
          subst (λ (z : List Member). AreNumbered z) (sym now) was.1,
        ))
        (cases_Bool (is_for handset k p))

-- what has no place in a round
module _ (p : Accepted) (none : place_in p.tpdu ≡ None) where
  pub begins_any : (down : List Allocation) (accepted : List Accepted) → true ≡ may_begin p down accepted
  begins_any down accepted = sym (ap (λ (o : Option PlaceOf). may_begin_at o p down accepted) none)

  not_for : (handset : List ℕ) (k : Key) → is_for handset k p ≡ false
  not_for handset k = ap (λ (o : Option PlaceOf). is_same_handset p.handset handset && has_key k o) none ∙ never (is_same_handset p.handset handset)
    where
      never : (b : Bool) → (b && false) ≡ false
      never true = refl
      never false = refl

  same_pairs : (g : Allocation) (down : List Allocation) (h : Holder) → IsPart h → pair_given g ≡ p → (handset : List ℕ) (k : Key)
      → of_key handset k (with_part_of h (pair_given g) (submitted_pairs down)) ≡ of_key handset k (submitted_pairs down)
  same_pairs g down (Part id n) i e handset k =
      ap (λ (z : Accepted). of_key handset k (z ∷ submitted_pairs down)) e
      ∙ cond-false (is_for handset k p) (p ∷ of_key handset k (submitted_pairs down)) (of_key handset k (submitted_pairs down)) (not_for handset k)
  same_pairs g down (Report id) i e handset k = absurd i
  same_pairs g down (Entry n) i e handset k = absurd i
  same_pairs g down (Memory n) i e handset k = absurd i

  pub rounds_stay : (entries : List (RoundKey × List Member)) (g : Allocation) (down : List Allocation) → Offers p g → HasRounds down entries → HasRounds (g ∷ down) entries
  rounds_stay entries g down offers was handset k =
      let x = was handset k in
      let is : rounds_of handset k (g ∷ down) ≡ rounds_of handset k down = ap rounds (same_pairs g down g.holder offers.part offers.pair handset k) in
      (x.0 ∙ ap (λ (z : Rounds). z.present) (sym is), x.1)

-- ---- places as they are kept

pub placed_as : (handset : List ℕ) (o : Option PlaceOf) (place : Place) → Some place ≡ placed_at handset o → (p : PlaceOf) × ((o ≡ Some p) × IsPlacedAs place handset p)
placed_as handset None place e = absurd cc
placed_as handset (Some p) place e =
    let kept : Place = record { key = round_key handset p.key; number = p.number } in
    let q : place ≡ kept = same_place place kept e in (p, (refl, q))
  where
    same_place : (a b : Place) → Some a ≡ Some b → a ≡ b
    same_place a b e = cc

pub not_placed : (handset : List ℕ) (o : Option PlaceOf) → None ≡ placed_at handset o → o ≡ None
not_placed handset None e = refl
not_placed handset (Some p) e = absurd cc
