-- What an event gave and what it had accepted, row by row.
use Rattle.std.proofs.Common.{◌≡◌, ℕ, zero, suc, ◌+◌, ◌≤◌, ◌<◌, arith, min, List, [], ◌∷◌, ◌++◌, length, drop, take, get_or, Bool, refl, sym, ◌∙◌, ap, subst, Option, Some, None}
use Rattle.std.specs.Prelude.{◌&&◌}
use Rattle.std.specs.Option.{option_map}
use Rattle.std.proofs.lemmas.List.{append-nil, append_assoc}
use Rattle.sms_base.proofs.Bools.{and_assoc, and_true}
use Rattle.sms_base.proofs.Lists.{drop_behind, drop_item}
use Rattle.sms_base.specs.declared.holder.Holder.{Holder}
use Rattle.sms_base.specs.declared.holder.Holder.TheVariants.{Part, Report, Entry, Memory}
use Rattle.sms_centre_rows.specs.declared.messages.part.PartRow.{PartRow}
use Rattle.sms_centre_rows.specs.messages.Messages.{part_at}
use Rattle.sms_play.specs.PlayState.{PlayState}
use Rattle.sms_play.specs.Premises.{all_pairs, are_fresh, behind, allocation_of, is_fresh_event, may_begin, newest_first, part_allocation, part_allocations, tpdu_in}
use Rattle.sms_script.specs.declared.report.rows.GivenRow.{GivenRow}
use Rattle.sms_tpdu.specs.MoreMessages.{compared}
use Rattle.sms_tpdu.specs.TpduReading as Reading
use Rattle.sms_world_model.specs.Place.{place_in}
use Rattle.sms_world_model.specs.World.{Accepted, Allocation, pair_given}
use Rattle.sms_play.specs.growth.Growth.{Grows, HasPart, HaveParts, PartsStay}
use Rattle.sms_play.specs.judging.Watching.{IsPart, Offers, Watches}
use Rattle.sms_play.specs.declared.judging.watch.Watch.{Watch}

-- ---- what was given, one after another

pub fresh_over : (xs ys down : List Allocation) (accepted : List Accepted) → are_fresh (xs ++ ys) down accepted ≡ (are_fresh xs down accepted && are_fresh ys (newest_first down xs) accepted)
fresh_over [] ys down accepted = refl
fresh_over (x ∷ xs) ys down accepted =
    ap (λ (b : Bool). may_begin (pair_given x) down accepted && b) (fresh_over xs ys (x ∷ down) accepted)
    ∙ sym (and_assoc (may_begin (pair_given x) down accepted) (are_fresh xs (x ∷ down) accepted) (are_fresh ys (newest_first (x ∷ down) xs) accepted))

pub newest_over : (gs xs ys : List Allocation) → newest_first gs (xs ++ ys) ≡ newest_first (newest_first gs xs) ys
newest_over gs [] ys = refl
newest_over gs (x ∷ xs) ys = newest_over (x ∷ gs) xs ys

pub allocations_over : (parts : List PartRow) (xs ys : List GivenRow) → part_allocations parts (xs ++ ys) ≡ part_allocations parts xs ++ part_allocations parts ys
allocations_over parts [] ys = refl
allocations_over parts (r ∷ xs) ys =
    ap (λ (z : List Allocation). part_allocation parts r r.holder ++ z) (allocations_over parts xs ys) ∙ sym (append_assoc (part_allocation parts r r.holder) (part_allocations parts xs) (part_allocations parts ys))

module _ (parts : List PartRow) (down : List Allocation) (accepted : List Accepted) where
  abbrev pub down_after : List GivenRow → List Allocation
  down_after done = newest_first down (part_allocations parts done)

  -- with one row more
  pub down_on : (done : List GivenRow) (row : GivenRow) → newest_first (down_after done) (part_allocation parts row row.holder) ≡ down_after (done ++ row ∷ [])
  down_on done row =
      sym (ap (λ (z : List Allocation). newest_first down z) (allocations_over parts done (row ∷ []) ∙ ap (λ (z : List Allocation). part_allocations parts done ++ z) (append-nil (part_allocation parts row row.holder)))
      ∙ newest_over down (part_allocations parts done) (part_allocation parts row row.holder))

  pub fresh_on : (done rest : List GivenRow) (row : GivenRow) (fresh may : Bool) → may ≡ are_fresh (part_allocation parts row row.holder) (down_after done) accepted
      → (fresh && are_fresh (part_allocations parts (row ∷ rest)) (down_after done) accepted) ≡ ((fresh && may) && are_fresh (part_allocations parts rest) (down_after (done ++ row ∷ [])) accepted)
  fresh_on done rest row fresh may e =
      let told = sym e in
      let down_next = down_on done row in
      ap (λ (b : Bool). fresh && b)
      (fresh_over (part_allocation parts row row.holder) (part_allocations parts rest) (down_after done) accepted
      ∙ (λ j. told j && are_fresh (part_allocations parts rest) (down_next j) accepted))
      ∙ sym (and_assoc fresh may (are_fresh (part_allocations parts rest) (down_after (done ++ row ∷ [])) accepted))

-- ---- a place in a list

one_more : (i : ℕ) → i + 1 ≡ suc i
one_more i = omega arith

pub none_below : (i : ℕ) → i < 0 → ⊥
none_below i l = omega (arith, l)

pub one_less : (i n : ℕ) → suc i < suc n → i < n
one_less i n l = omega (arith, l)

taken_next : {A : Type 0} (xs : List A) (i : ℕ) (x : A) → i < length xs → x ≡ get_or xs i x → take (suc i) xs ≡ take i xs ++ x ∷ []
taken_next [] i x l e = absurd (none_below i l)
taken_next (y ∷ xs) zero x l e = ap (λ z. z ∷ []) (sym e)
taken_next (y ∷ xs) (suc i) x l e = ap (λ z. y ∷ z) (taken_next xs i x (one_less i (length xs) l) e)

pub taken_on : {A : Type 0} (xs : List A) (i : ℕ) (x : A) → i < length xs → x ≡ get_or xs i x → take (i + 1) xs ≡ take i xs ++ x ∷ []
taken_on xs i x l e = ap (λ (k : ℕ). take k xs) (one_more i) ∙ taken_next xs i x l e

none_less : (n : ℕ) → suc n ≤ 0 → ⊥
none_less n l = omega (arith, l)

less_both : (n i : ℕ) → suc n ≤ suc i → n ≤ i
less_both n i l = omega (arith, l)

pub all_taken : {A : Type 0} (xs : List A) (i : ℕ) → length xs ≤ i → take i xs ≡ xs
all_taken [] zero l = refl
all_taken [] (suc i) l = refl
all_taken (x ∷ xs) zero l = absurd (none_less (length xs) l)
all_taken (x ∷ xs) (suc i) l = ap (λ z. x ∷ z) (all_taken xs i (less_both (length xs) i l))

pub none_left : {A : Type 0} (xs : List A) (i : ℕ) → length xs ≤ i → drop i xs ≡ []
none_left [] zero l = refl
none_left [] (suc i) l = refl
none_left (x ∷ xs) zero l = absurd (none_less (length xs) l)
none_left (x ∷ xs) (suc i) l = none_left xs i (less_both (length xs) i l)

-- ---- rows up to a place

module _ (parts : List PartRow) (given : List GivenRow) (down : List Allocation) (accepted : List Accepted) (rows : List GivenRow) (i : ℕ) where
  abbrev pub all_fresh : Bool
  all_fresh = are_fresh (part_allocations parts rows) down accepted

  module _ (row : GivenRow) (under : i < length rows) (is : row ≡ get_or rows i row) where
    next_rows : take (i + 1) rows ≡ take i rows ++ row ∷ []
    next_rows = taken_on rows i row under is

    pub look_on : (fresh may both : Bool) → both ≡ (fresh && may) → may ≡ are_fresh (part_allocation parts row row.holder) (down_after parts down accepted (take i rows)) accepted
        → (fresh && are_fresh (part_allocations parts (drop i rows)) (down_after parts down accepted (take i rows)) accepted) ≡ all_fresh
        → (both && are_fresh (part_allocations parts (drop (i + 1) rows)) (down_after parts down accepted (take (i + 1) rows)) accepted) ≡ all_fresh
    look_on fresh may both joined told so_far =
        let rest : List GivenRow = drop (i + 1) rows in
        (λ j. joined j && are_fresh (part_allocations parts rest) (down_after parts down accepted (next_rows j)) accepted)
        ∙ sym (fresh_on parts down accepted (take i rows) rest row fresh may told)
        ∙ ap (λ (z : List GivenRow). fresh && are_fresh (part_allocations parts z) (down_after parts down accepted (take i rows)) accepted) (sym (drop_item rows i row under is))
        ∙ so_far

    pub watch_on : (w : Watch) → Watches ((given ++ take i rows) ++ row ∷ []) (newest_first (down_after parts down accepted (take i rows)) (part_allocation parts row row.holder)) accepted w
        → Watches (given ++ take (i + 1) rows) (down_after parts down accepted (take (i + 1) rows)) accepted w
    watch_on w told =
        let next = sym next_rows in
        subst (λ (z : List GivenRow). Watches (given ++ z) (down_after parts down accepted z) accepted w) next
        (subst (λ (z : List Allocation). Watches (given ++ (take i rows ++ row ∷ [])) z accepted w) (down_on parts down accepted (take i rows) row)
        (subst (λ (z : List GivenRow). Watches z (newest_first (down_after parts down accepted (take i rows)) (part_allocation parts row row.holder)) accepted w) (append_assoc given (take i rows) (row ∷ [])) told))

  module _ (over : length rows ≤ i) where
    pub look_end : (fresh : Bool) → (fresh && are_fresh (part_allocations parts (drop i rows)) (down_after parts down accepted (take i rows)) accepted) ≡ all_fresh → fresh ≡ all_fresh
    look_end fresh so_far =
        sym (and_true fresh)
        ∙ ap (λ (z : List GivenRow). fresh && are_fresh (part_allocations parts z) (down_after parts down accepted (take i rows)) accepted) (sym (none_left rows i over)) ∙ so_far

    pub watch_end : (w : Watch) → Watches (given ++ take i rows) (down_after parts down accepted (take i rows)) accepted w → Watches (given ++ rows) (down_after parts down accepted rows) accepted w
    watch_end w told = subst (λ (z : List GivenRow). Watches (given ++ z) (down_after parts down accepted z) accepted w) (all_taken rows i over) told

-- ---- one row

is_part : (h : Holder) (id n : ℕ) → h ≡ Part id n → IsPart h
is_part h id n e = subst (λ (z : Holder). IsPart z) (sym e) tt

abbrev octets_of : Option PartRow → Option (List ℕ)
octets_of o = option_map (λ (p : PartRow). p.tpdu) o

pub some_octets : (o : Option PartRow) (tpdu : List ℕ) → Some tpdu ≡ octets_of o → tpdu_in o ≡ tpdu
some_octets None tpdu e = absurd cc
some_octets (Some p) tpdu e = let q : tpdu ≡ p.tpdu = cc in sym q

pub no_octets : (o : Option PartRow) → None ≡ octets_of o → tpdu_in o ≡ []
no_octets None e = refl
no_octets (Some p) e = absurd cc

module _ (parts : List PartRow) (row : GivenRow) (id n : ℕ) (is : row.holder ≡ Part id n) (down : List Allocation) (accepted : List Accepted) (tpdu : List ℕ) (octets : tpdu_in (part_at id n parts) ≡ tpdu) where
  abbrev pub own_pair : Accepted
  own_pair = record { handset = row.handset; reference = row.reference; tpdu = compared tpdu }

  abbrev pub own_allocation : Allocation
  own_allocation = allocation_of row tpdu

  pub one_allocation : part_allocation parts row row.holder ≡ own_allocation ∷ []
  one_allocation = ap (λ (h : Holder). part_allocation parts row h) is ∙ ap (λ (z : List ℕ). allocation_of row z ∷ []) octets

  pub offers_it : Offers own_pair own_allocation
  offers_it = record { part = is_part row.holder id n is; pair = refl }

  pub fresh_one : may_begin own_pair down accepted ≡ are_fresh (part_allocation parts row row.holder) down accepted
  fresh_one = sym (and_true (may_begin own_pair down accepted)) ∙ ap (λ (gs : List Allocation). are_fresh gs down accepted) (sym one_allocation)

  pub down_one : own_allocation ∷ down ≡ newest_first down (part_allocation parts row row.holder)
  down_one = ap (λ (gs : List Allocation). newest_first down gs) (sym one_allocation)

-- what has no octets has no place
pub no_place : place_in (compared []) ≡ None
unfolding place_in Reading.down_at Reading.data_down_at compared Reading.deliver_at
no_place = refl

-- the row of another holder
module _ (parts : List PartRow) (row : GivenRow) where
  pub none_given : (h : Holder) → row.holder ≡ h → ((id n : ℕ) → h ≡ Part id n → ⊥) → part_allocation parts row row.holder ≡ []
  none_given (Part id n) is not = absurd (not id n refl)
  none_given (Report id) is not = ap (λ (h : Holder). part_allocation parts row h) is
  none_given (Entry n) is not = ap (λ (h : Holder). part_allocation parts row h) is
  none_given (Memory n) is not = ap (λ (h : Holder). part_allocation parts row h) is

-- ---- parts that stay

module _ (before after : List PartRow) (stay : PartsStay before after) where
  one_stays : (g : GivenRow) (h : Holder) → HasPart before h → part_allocation after g h ≡ part_allocation before g h
  one_stays g (Part id n) there =
      let x = stay id n there.0 there.1 in
      let tpdu : tpdu_in (part_at id n after) ≡ tpdu_in (part_at id n before) = ap tpdu_in x.1.0 ∙ x.1.1 ∙ ap tpdu_in (sym there.1) in
      ap (λ (z : List ℕ). allocation_of g z ∷ []) tpdu
  one_stays g (Report id) there = refl
  one_stays g (Entry n) there = refl
  one_stays g (Memory n) there = refl

  pub allocations_stay : (given : List GivenRow) → HaveParts before given → part_allocations after given ≡ part_allocations before given
  allocations_stay [] have = refl
  allocations_stay (g ∷ given) have =
      let here = one_stays g g.holder have.0 in let rest = allocations_stay given have.1 in λ j. here j ++ rest j

  one_there : (h : Holder) → HasPart before h → HasPart after h
  one_there (Part id n) there = let x = stay id n there.0 there.1 in (x.0, x.1.0)
  one_there (Report id) there = tt
  one_there (Entry n) there = tt
  one_there (Memory n) there = tt

  pub still_have : (given : List GivenRow) → HaveParts before given → HaveParts after given
  still_have [] have = tt
  still_have (g ∷ given) have = (one_there g.holder have.0, still_have given have.1)

pub have_both : (parts : List PartRow) (xs ys : List GivenRow) → HaveParts parts xs → HaveParts parts ys → HaveParts parts (xs ++ ys)
have_both parts [] ys a b = b
have_both parts (x ∷ xs) ys a b = (a.0, have_both parts xs ys a.1 b)

-- ---- rows behind others

pub behind_all : (xs ys : List GivenRow) → behind xs (xs ++ ys) ≡ ys
behind_all [] ys = refl
behind_all (x ∷ xs) ys = behind_all xs ys

zero_at_most : (k : ℕ) → 0 ≤ k
zero_at_most k = omega arith

none_least : (m : ℕ) → min 0 m ≡ 0
none_least m = omega arith

both_more : (n m : ℕ) → min (suc n) (suc m) ≡ suc (min n m)
both_more n m = omega arith

pub at_most : {A : Type 0} (n : ℕ) (xs : List A) → drop (min n (length xs)) xs ≡ drop n xs
at_most zero xs = ap (λ (k : ℕ). drop k xs) (none_least (length xs))
at_most (suc n) [] = none_left [] (min (suc n) 0) (zero_at_most (min (suc n) 0)) ∙ sym (none_left [] (suc n) (zero_at_most (suc n)))
at_most (suc n) (x ∷ xs) = ap (λ (k : ℕ). drop k (x ∷ xs)) (both_more n (length xs)) ∙ at_most n xs

-- ---- an event that gave more

module _ (before after : PlayState) (goes : Grows before after) (have : HaveParts before.centre.rows.parts before.given) where
  abbrev parts_after : List PartRow
  parts_after = after.centre.rows.parts

  pub same_down : newest_first [] (part_allocations before.centre.rows.parts before.given) ≡ newest_first [] (part_allocations parts_after before.given)
  same_down = ap (λ (gs : List Allocation). newest_first [] gs) (sym (allocations_stay before.centre.rows.parts parts_after goes.parts before.given have))

  pub rows_are : drop (length before.given) after.given ≡ goes.more
  rows_are = ap (λ (z : List GivenRow). drop (length before.given) z) goes.given ∙ drop_behind before.given goes.more

  pub fresh_is : are_fresh (part_allocations parts_after goes.more) (newest_first [] (part_allocations before.centre.rows.parts before.given)) (all_pairs before.parties) ≡ is_fresh_event before after
  fresh_is =
      let rows : behind before.given after.given ≡ goes.more = ap (λ (z : List GivenRow). behind before.given z) goes.given ∙ behind_all before.given goes.more in
      let told = sym rows in
      (λ j. are_fresh (part_allocations parts_after (told j)) (same_down j) (all_pairs before.parties))

  pub down_is : newest_first (newest_first [] (part_allocations before.centre.rows.parts before.given)) (part_allocations parts_after goes.more) ≡ newest_first [] (part_allocations parts_after after.given)
  down_is =
      ap (λ (z : List Allocation). newest_first z (part_allocations parts_after goes.more)) same_down
      ∙ sym (newest_over [] (part_allocations parts_after before.given) (part_allocations parts_after goes.more))
      ∙ ap (λ (z : List Allocation). newest_first [] z) (sym (allocations_over parts_after before.given goes.more) ∙ ap (λ (z : List GivenRow). part_allocations parts_after z) (sym goes.given))

  pub have_all : HaveParts parts_after after.given
  have_all = subst (λ (z : List GivenRow). HaveParts parts_after z) (sym goes.given)
      (have_both parts_after before.given goes.more (still_have before.centre.rows.parts parts_after goes.parts before.given have) goes.there)
