-- Parts taken one by one: they stand in order, and in whatever order they came they join to what they join to in order.
use Rattle.std.proofs.Common.{◌≡◌, ℕ, zero, suc, ◌+◌, ◌<◌, ◌≤◌, Bool, true, false, cond, not, ◌&&◌, ◌||◌, eqb, ltb, leb, List, [], ◌∷◌, ◌++◌, take, drop, length, Some, None, refl, sym, ap, subst, ◌∙◌, arith, inl, inr}
use Rattle.std.specs.Prelude.{◌⊎◌, ◌↔◌}
use Rattle.std.specs.List.{insert, position, position_or_len, prefix_len}
use Rattle.std.specs.Option.{unwrap_or}
use Rattle.std.proofs.lemmas.Bool.{and_parts, and_from, or_parts, or_cases, ltb-true, ltb-false, leb-true, eqb-true, eqb-false, eq-eqb, lt-ltb, le-leb, not-true}
use Rattle.sms_base.specs.Among.{Among}
use Rattle.sms_alphabet.specs.declared.concat_key.ConcatKey.{ConcatKey}
use Rattle.sms_alphabet.specs.declared.concat_key.ConcatReference.{ConcatReference}
use Rattle.sms_concat.specs.declared.content.Content.{Content}
use Rattle.sms_concat.specs.declared.content.Part.{Part}
use Rattle.sms_concat.specs.Joining.{key_or_alone, is_same_reference, bears, bear_from, is_whole, units_of, content_joined}
use Rattle.sms_concat.specs.joiner.StepwiseJoining.{Taken, none_taken, number_of, belongs, has_number, takes, inserted, with_part, is_full, AllBelong, RiseFrom, IsTaken, all_taken, joined_stepwise, AreSameParts}
use Rattle.sms_concat.proofs.References.{same_reference, one_reference}

-- ---- the place of a part

place_by : (b : Bool) (p x : Part) (xs : List Part) (n : ℕ) → ltb (number_of p) (number_of x) ≡ b → insert xs n p ≡ inserted p xs
    → insert (x ∷ xs) (cond (not b) (1 + n) 0) p ≡ inserted p (x ∷ xs)
place_by true p x xs n t rest = rw t refl
place_by false p x xs n t rest =
    let one : 1 + n ≡ suc n = omega arith in
    rw (t, one) (ap (λ (l : List Part). x ∷ l) rest)

pub place_is : (p : Part) (xs : List Part) → insert xs (position_or_len (λ x. ltb (number_of p) (number_of x)) xs) p ≡ inserted p xs
place_is p [] = refl
place_is p (x ∷ xs) =
    place_by (ltb (number_of p) (number_of x)) p x xs (position_or_len (λ y. ltb (number_of p) (number_of y)) xs) refl (place_is p xs)

pub place_within : (p : Part) (xs : List Part) → position_or_len (λ x. ltb (number_of p) (number_of x)) xs ≤ length xs
place_within p [] = omega arith
place_within p (x ∷ xs) = by (ltb (number_of p) (number_of x)) (place_within p xs)
  where
    by : (b : Bool) → prefix_len (λ y. not (ltb (number_of p) (number_of y))) xs ≤ length xs → cond (not b) (1 + prefix_len (λ y. not (ltb (number_of p) (number_of y))) xs) 0 ≤ suc (length xs)
    by true h = omega arith
    by false h = omega (arith, h)

-- the place as it is found
pub found_place : (p : Part) (xs : List Part) (n : ℕ) → n ≡ unwrap_or (position (λ x. ltb (number_of p) (number_of x)) xs) (length xs) → (insert xs n p ≡ inserted p xs) × (n ≤ length xs)
found_place p xs n e =
    let m = position_or_len (λ x. ltb (number_of p) (number_of x)) xs in
    let within = place_within p xs in
    let is : n ≡ m = e ∙ by (ltb m (length xs)) refl within in
    (ap (λ (k : ℕ). insert xs k p) is ∙ place_is p xs, omega (arith, is, within))
  where
    by : (b : Bool) → ltb (position_or_len (λ x. ltb (number_of p) (number_of x)) xs) (length xs) ≡ b → position_or_len (λ x. ltb (number_of p) (number_of x)) xs ≤ length xs
        → unwrap_or (cond b (Some (position_or_len (λ x. ltb (number_of p) (number_of x)) xs)) None) (length xs) ≡ position_or_len (λ x. ltb (number_of p) (number_of x)) xs
    by true t within = refl
    by false t within = let le = ltb-false _ _ t in omega (arith, le, within)

-- ---- a part more stands in order

rising_by : (b : Bool) (low : ℕ) (p x : Part) (xs : List Part) → ltb (number_of p) (number_of x) ≡ b → low < number_of p → low < number_of x → RiseFrom (number_of x) xs → (number_of x ≡ number_of p → ⊥)
    → (number_of x < number_of p → RiseFrom (number_of x) (inserted p xs)) → RiseFrom low (cond b (p ∷ x ∷ xs) (x ∷ inserted p xs))
rising_by true low p x xs t here first rest other later = (here, (ltb-true _ _ t, rest))
rising_by false low p x xs t here first rest other later =
    let le : number_of x ≤ number_of p = ltb-false _ _ t in
    (first, later (omega (arith, le, other)))

pub rising_more : (low : ℕ) (p : Part) (xs : List Part) → RiseFrom low xs → low < number_of p → has_number (number_of p) xs ≡ false → RiseFrom low (inserted p xs)
rising_more low p [] h here none = (here, tt)
rising_more low p (x ∷ xs) h here none =
    let n = or_parts (eqb (number_of x) (number_of p)) (has_number (number_of p) xs) none in
    rising_by (ltb (number_of p) (number_of x)) low p x xs refl here h.0 h.1 (eqb-false _ _ n.0) (λ lt. rising_more (number_of x) p xs h.1 lt n.1)

belong_by : (b : Bool) (r : ConcatReference) (t : ℕ) (p x : Part) (xs : List Part) → belongs r t p ≡ true → belongs r t x ≡ true → AllBelong r t xs → AllBelong r t (inserted p xs) → AllBelong r t (cond b (p ∷ x ∷ xs) (x ∷ inserted p xs))
belong_by true r t p x xs here first rest more = (here, (first, rest))
belong_by false r t p x xs here first rest more = (first, more)

pub belong_more : (r : ConcatReference) (t : ℕ) (p : Part) (xs : List Part) → belongs r t p ≡ true → AllBelong r t xs → AllBelong r t (inserted p xs)
belong_more r t p [] here h = (here, tt)
belong_more r t p (x ∷ xs) here h = belong_by (ltb (number_of p) (number_of x)) r t p x xs here h.0 h.1 (belong_more r t p xs here h.1)

-- what it means to be one of the message
pub record Belongs (r : ConcatReference) (t : ℕ) (p : Part) : Type 0 where
  pub reference_is : (key_or_alone p.key).reference ≡ r
  pub total_is : (key_or_alone p.key).total ≡ t
  pub low : 0 < number_of p
  pub high : number_of p ≤ t

pub belongs_parts : (r : ConcatReference) (t : ℕ) (p : Part) → belongs r t p ≡ true → Belongs r t p
belongs_parts r t p e =
    let k = key_or_alone p.key in
    let a = and_parts (is_same_reference k.reference r && eqb k.total t && ltb 0 k.number) (leb k.number t) e in
    let b = and_parts (is_same_reference k.reference r && eqb k.total t) (ltb 0 k.number) a.0 in
    let c = and_parts (is_same_reference k.reference r) (eqb k.total t) b.0 in
    record { reference_is = same_reference k.reference r c.0; total_is = eqb-true k.total t c.1; low = ltb-true 0 k.number b.1; high = leb-true k.number t a.1 }

belongs_from : (r : ConcatReference) (t : ℕ) (p : Part) → is_same_reference (key_or_alone p.key).reference r ≡ true → eqb (key_or_alone p.key).total t ≡ true → 0 < number_of p → number_of p ≤ t → belongs r t p ≡ true
belongs_from r t p e f low high =
    let k = key_or_alone p.key in
    and_from (is_same_reference k.reference r && eqb k.total t && ltb 0 k.number) (leb k.number t)
    (and_from (is_same_reference k.reference r && eqb k.total t) (ltb 0 k.number) (and_from (is_same_reference k.reference r) (eqb k.total t) e f) (lt-ltb 0 k.number low))
    (le-leb k.number t high)

pub taken_more : (t : Taken) (p : Part) → IsTaken t → takes t p ≡ true → IsTaken (with_part t p)
taken_more t p h e =
    let both = and_parts (belongs t.reference t.total p) (not (has_number (number_of p) t.parts)) e in
    let b = belongs_parts t.reference t.total p both.0 in
    record {
      of_message = belong_more t.reference t.total p t.parts both.0 h.of_message;
      in_order = rising_more 0 p t.parts h.in_order b.low (not-true (has_number (number_of p) t.parts) both.1);
    }

pub none_in_order : (key : ConcatKey) → IsTaken (none_taken key)
none_in_order key = record { of_message = tt; in_order = tt }

-- ---- which parts are there

in_by : (b : Bool) (q p x : Part) (xs : List Part) → ((Among q (inserted p xs)) → (q ≡ p) ⊎ Among q xs) → Among q (cond b (p ∷ x ∷ xs) (x ∷ inserted p xs)) → (q ≡ p) ⊎ Among q (x ∷ xs)
in_by true q p x xs rest h = h
in_by false q p x xs rest h = elim h [
  | inl e ↦ inr (inl e)
  | inr k ↦ elim (rest k) [ inl e ↦ inl e | inr m ↦ inr (inr m) ]
]

pub in_inserted : (q p : Part) (xs : List Part) → Among q (inserted p xs) → (q ≡ p) ⊎ Among q xs
in_inserted q p [] h = h
in_inserted q p (x ∷ xs) h = in_by (ltb (number_of p) (number_of x)) q p x xs (in_inserted q p xs) h

here_by : (b : Bool) (p x : Part) (xs : List Part) → Among p (inserted p xs) → Among p (cond b (p ∷ x ∷ xs) (x ∷ inserted p xs))
here_by true p x xs h = inl refl
here_by false p x xs h = inr h

pub here_inserted : (p : Part) (xs : List Part) → Among p (inserted p xs)
here_inserted p [] = inl refl
here_inserted p (x ∷ xs) = here_by (ltb (number_of p) (number_of x)) p x xs (here_inserted p xs)

there_by : (b : Bool) (q p x : Part) (xs : List Part) → (Among q xs → Among q (inserted p xs)) → Among q (x ∷ xs) → Among q (cond b (p ∷ x ∷ xs) (x ∷ inserted p xs))
there_by true q p x xs rest h = inr h
there_by false q p x xs rest h = elim h [ inl e ↦ inl e | inr k ↦ inr (rest k) ]

pub there_inserted : (q p : Part) (xs : List Part) → Among q xs → Among q (inserted p xs)
there_inserted q p [] h = absurd h
there_inserted q p (x ∷ xs) h = there_by (ltb (number_of p) (number_of x)) q p x xs (there_inserted q p xs) h

pub above : (low : ℕ) (q : Part) (xs : List Part) → RiseFrom low xs → Among q xs → low < number_of q
above low q [] h k = absurd k
above low q (x ∷ xs) h k = elim k [
  | inl e ↦ subst (λ (y : Part). low < number_of y) (sym e) h.0
  | inr m ↦ let lt = above (number_of x) q xs h.1 m in let first = h.0 in omega (arith, lt, first)
]

-- two parts of one number are one
pub one_of_number : (low : ℕ) (p q : Part) (xs : List Part) → RiseFrom low xs → Among p xs → Among q xs → number_of p ≡ number_of q → p ≡ q
one_of_number low p q [] h k l e = absurd k
one_of_number low p q (x ∷ xs) h k l e = elim k [
  | inl a ↦ elim l [
    | inl b ↦ a ∙ sym b
    | inr n ↦ let lt = above (number_of x) q xs h.1 n in let same : number_of p ≡ number_of x = ap number_of a in absurd (omega (arith, lt, same, e))
  ]
  | inr m ↦ elim l [
    | inl b ↦ let lt = above (number_of x) p xs h.1 m in let same : number_of q ≡ number_of x = ap number_of b in absurd (omega (arith, lt, same, e))
    | inr n ↦ one_of_number (number_of x) p q xs h.1 m n e
  ]
]

-- a tail's part, where the lists have the same parts
later_part : (x y r : Part) (xs ys : List Part) → x ≡ y → RiseFrom (number_of x) xs → Among r xs → Among r (y ∷ ys) → Among r ys
later_part x y r xs ys e h m k = elim k [
  | inl a ↦ let lt = above (number_of x) r xs h m in let same : number_of r ≡ number_of x = ap number_of (a ∙ sym e) in absurd (omega (arith, lt, same))
  | inr n ↦ n
]

first_is : (x y : Part) (xs ys : List Part) → RiseFrom (number_of x) xs → RiseFrom (number_of y) ys → Among x (y ∷ ys) → Among y (x ∷ xs) → x ≡ y
first_is x y xs ys h k a b = elim a [
  | inl e ↦ e
  | inr m ↦ elim b [
    | inl e ↦ sym e
    | inr n ↦ let one = above (number_of y) x ys k m in let other = above (number_of x) y xs h n in absurd (omega (arith, one, other))
  ]
]

-- in order there is one list of the same parts
pub one_order : (low other : ℕ) (xs ys : List Part) → RiseFrom low xs → RiseFrom other ys → ((p : Part) → Among p xs → Among p ys) → ((p : Part) → Among p ys → Among p xs) → xs ≡ ys
one_order low other [] [] h k there back = refl
one_order low other [] (y ∷ ys) h k there back = absurd (back y (inl refl))
one_order low other (x ∷ xs) [] h k there back = absurd (there x (inl refl))
one_order low other (x ∷ xs) (y ∷ ys) h k there back =
    let e = first_is x y xs ys h.1 k.1 (there x (inl refl)) (back y (inl refl)) in
    let rest = one_order (number_of x) (number_of y) xs ys h.1 k.1 (λ p m. later_part x y p xs ys e h.1 m (there p (inr m))) (λ p m. later_part y x p ys xs (sym e) k.1 m (back p (inr m))) in
    ap (λ (z : Part). z ∷ xs) e ∙ ap (λ (l : List Part). y ∷ l) rest

pub found_number : (n : ℕ) (xs : List Part) → has_number n xs ≡ true → (q : Part) × (Among q xs × (number_of q ≡ n))
found_number n [] e = absurd cc
found_number n (x ∷ xs) e = elim (or_cases (eqb (number_of x) n) (has_number n xs) e) [
  | inl a ↦ (x, (inl refl, eqb-true (number_of x) n a))
  | inr b ↦ let f = found_number n xs b in (f.0, (inr f.1.0, f.1.1))
]

-- ---- all that come, where they are parts of one list in order

pub record Gathers (t u : Taken) (came parts : List Part) : Type 0 where
  pub taken : IsTaken u
  pub within : (p : Part) → Among p u.parts → Among p parts
  pub kept : (p : Part) → Among p t.parts → Among p u.parts
  pub all : (p : Part) → Among p came → Among p u.parts

-- the part was there
was_there : (low : ℕ) (parts : List Part) (t : Taken) (p : Part) → RiseFrom low parts → Among p parts → belongs t.reference t.total p ≡ true → ((q : Part) → Among q t.parts → Among q parts) → takes t p ≡ false → Among p t.parts
was_there low parts t p h m b within e =
    let there : has_number (number_of p) t.parts ≡ true = by (has_number (number_of p) t.parts) b e in
    let q = found_number (number_of p) t.parts there in
    let same = one_of_number low p q.0 parts h m (within q.0 q.1.0) (sym q.1.1) in
    subst (λ (x : Part). Among x t.parts) (sym same) q.1.0
  where
    by : (c : Bool) → belongs t.reference t.total p ≡ true → belongs t.reference t.total p && not c ≡ false → c ≡ true
    by true x y = refl
    by false x y = let z : belongs t.reference t.total p && true ≡ true = and_from (belongs t.reference t.total p) true x refl in absurd cc

pub gathers : (low : ℕ) (parts came : List Part) (t : Taken) → RiseFrom low parts → ((p : Part) → Among p parts → belongs t.reference t.total p ≡ true) → IsTaken t
    → ((p : Part) → Among p t.parts → Among p parts) → ((p : Part) → Among p came → Among p parts) → Gathers t (all_taken t came) came parts
gathers low parts [] t h b i within come = record { taken = i; within = within; kept = λ p m. m; all = λ p m. absurd m }
gathers low parts (p ∷ came) t h b i within come =
    by (takes t p) refl (λ e. gathers low parts came (with_part t p) h b (taken_more t p i e) (more within) (λ q m. come q (inr m))) (gathers low parts came t h b i within (λ q m. come q (inr m)))
  where
    mine : Among p parts
    mine = come p (inl refl)

    more : ((q : Part) → Among q t.parts → Among q parts) → (q : Part) → Among q (inserted p t.parts) → Among q parts
    more within q m = elim (in_inserted q p t.parts m) [
      | inl e ↦ subst (λ (x : Part). Among x parts) (sym e) mine
      | inr n ↦ within q n
    ]

    by : (c : Bool) → takes t p ≡ c → (takes t p ≡ true → Gathers (with_part t p) (all_taken (with_part t p) came) came parts) → Gathers t (all_taken t came) came parts
        → Gathers t (all_taken (cond c (with_part t p) t) came) (p ∷ came) parts
    by true e one other =
        let g = one e in
        record {
          taken = g.taken;
          within = g.within;
          kept = λ q m. g.kept q (there_inserted q p t.parts m);
          all = λ q m. elim m [
            | inl s ↦ subst (λ (x : Part). Among x (all_taken (with_part t p) came).parts) (sym s) (g.kept p (here_inserted p t.parts))
            | inr n ↦ g.all q n
          ];
        }
    by false e one g =
        record {
          taken = g.taken;
          within = g.within;
          kept = g.kept;
          all = λ q m. elim m [
            | inl s ↦ subst (λ (x : Part). Among x (all_taken t came).parts) (sym s) (g.kept p (was_there low parts t p h mine (b p mine) within e))
            | inr n ↦ g.all q n
          ];
        }

-- ---- whole messages

bears_parts : (r : ConcatReference) (t d n : ℕ) (p : Part) → bears r t d n p ≡ true → (is_same_reference (key_or_alone p.key).reference r ≡ true) × (eqb (key_or_alone p.key).total t ≡ true) × (number_of p ≡ n) × (p.content.dcs ≡ d)
bears_parts r t d n p e =
    let k = key_or_alone p.key in
    let a = and_parts (is_same_reference k.reference r && eqb k.total t && eqb k.number n) (eqb p.content.dcs d) e in
    let b = and_parts (is_same_reference k.reference r && eqb k.total t) (eqb k.number n) a.0 in
    let c = and_parts (is_same_reference k.reference r) (eqb k.total t) b.0 in
    (c.0, c.1, eqb-true k.number n b.1, eqb-true p.content.dcs d a.1)

bear_rises : (r : ConcatReference) (t d n low : ℕ) (xs : List Part) → low < n → bear_from r t d n xs ≡ true → RiseFrom low xs
bear_rises r t d n low [] lt e = tt
bear_rises r t d n low (x ∷ xs) lt e =
    let both = and_parts (bears r t d n x) (bear_from r t d (n + 1) xs) e in
    let is = (bears_parts r t d n x both.0).2 in
    (omega (arith, is), bear_rises r t d (n + 1) (number_of x) xs (omega (arith, is)) both.1)

bear_belongs : (r : ConcatReference) (t d n : ℕ) (xs : List Part) → 0 < n → n + length xs ≤ t + 1 → bear_from r t d n xs ≡ true → (p : Part) → Among p xs → belongs r t p ≡ true
bear_belongs r t d n [] low high e p m = absurd m
bear_belongs r t d n (x ∷ xs) low high e p m =
    let both = and_parts (bears r t d n x) (bear_from r t d (n + 1) xs) e in
    let is = bears_parts r t d n x both.0 in
    let number = is.2 in
    elim m [
      | inl s ↦ subst (λ (y : Part). belongs r t y ≡ true) (sym s) (belongs_from r t x is.0 is.1 (omega (arith, number)) (omega (arith, number)))
      | inr k ↦ bear_belongs r t d (n + 1) xs (omega arith) (omega arith) both.1 p k
    ]

joined_is_whole : (first : Part) (rest : List Part) (content : Content) → content_joined (first ∷ rest) ≡ Some content → is_whole (first ∷ rest) ≡ true
joined_is_whole first rest content e = by (is_whole (first ∷ rest)) e
  where
    by : (b : Bool) → cond b (Some (record { coding = first.content.coding; dcs = first.content.dcs; units = units_of (first ∷ rest) })) None ≡ Some content → b ≡ true
    by true e = refl
    by false e = absurd cc

-- whoever comes first says the same of the message
whole_stepwise : (first : Part) (rest : List Part) (f : Part) (came : List Part) → is_whole (first ∷ rest) ≡ true → AreSameParts (f ∷ came) (first ∷ rest)
    → (all_taken (none_taken (key_or_alone f.key)) (f ∷ came)).parts ≡ first ∷ rest
whole_stepwise first rest f came w s =
    let k = key_or_alone first.key in
    let both = and_parts (eqb k.total (length (first ∷ rest))) (bear_from k.reference k.total first.content.dcs 1 (first ∷ rest)) w in
    let count : k.total ≡ length (first ∷ rest) = eqb-true _ _ both.0 in
    let rises = bear_rises k.reference k.total first.content.dcs 1 0 (first ∷ rest) (omega arith) both.1 in
    let all = bear_belongs k.reference k.total first.content.dcs 1 (first ∷ rest) (omega arith) (omega (arith, count)) both.1 in
    let b = belongs_parts k.reference k.total f (all f (s.no_other f (inl refl))) in
    let start : none_taken (key_or_alone f.key) ≡ none_taken k = λ j. record { reference = b.reference_is j; total = b.total_is j; parts = [] } in
    let g = gathers 0 (first ∷ rest) (f ∷ came) (none_taken k) rises all (none_in_order k) (λ p m. absurd m) s.no_other in
    let u = all_taken (none_taken k) (f ∷ came) in
    let same : u.parts ≡ first ∷ rest = one_order 0 0 u.parts (first ∷ rest) g.taken.in_order rises g.within (λ p m. g.all p (s.each p m)) in
    ap (λ (t : Taken). (all_taken t (f ∷ came)).parts) start ∙ same

pub stepwise_is_join : (parts came : List Part) (content : Content) → content_joined parts ≡ Some content → AreSameParts came parts → joined_stepwise came ≡ Some content
stepwise_is_join [] came content e s = absurd cc
stepwise_is_join (first ∷ rest) [] content e s = absurd (s.each first (inl refl))
stepwise_is_join (first ∷ rest) (f ∷ came) content e s =
    ap content_joined (whole_stepwise first rest f came (joined_is_whole first rest content e) s) ∙ e

-- ---- full

-- within a top
abbrev Within : ℕ → List Part → Type 0
Within top xs = (p : Part) → Among p xs → number_of p ≤ top

few_rise : (low top : ℕ) (xs : List Part) → low ≤ top → RiseFrom low xs → Within top xs → low + length xs ≤ top
few_rise low top [] le h w = omega arith
few_rise low top (x ∷ xs) le h w =
    let first = w x (inl refl) in
    let rest = few_rise (number_of x) top xs first h.1 (λ p m. w p (inr m)) in
    let lt = h.0 in
    omega (arith, first, rest, lt)

all_there : (low top n : ℕ) (xs : List Part) → RiseFrom low xs → Within top xs → low + length xs ≡ top → low < n → n ≤ top → has_number n xs ≡ true
all_there low top n [] h w e lt le = absurd (omega (arith, e))
all_there low top n (x ∷ xs) h w e lt le =
    let rest = few_rise (number_of x) top xs (w x (inl refl)) h.1 (λ p m. w p (inr m)) in
    let first = h.0 in
    let next : number_of x ≡ low + 1 = omega (arith, rest, first, e) in
    by (eqb (number_of x) n) refl next (λ more. all_there (number_of x) top n xs h.1 (λ p m. w p (inr m)) (omega (arith, next, e)) more le)
  where
    by : (b : Bool) → eqb (number_of x) n ≡ b → number_of x ≡ low + 1 → (number_of x < n → has_number n xs ≡ true) → b || has_number n xs ≡ true
    by true t next later = refl
    by false t next later = let other = eqb-false _ _ t in later (omega (arith, next, other))

not_below : (low n : ℕ) (xs : List Part) → RiseFrom low xs → n ≤ low → has_number n xs ≡ true → ⊥
not_below low n xs h le e =
    let f = found_number n xs e in
    let lt = above low f.0 xs h f.1.0 in
    let is = f.1.1 in
    omega (arith, lt, is)

-- each number from above low, as many as k, is there
abbrev AreThere : ℕ → ℕ → List Part → Type 0
AreThere k low xs = (n : ℕ) → low < n → n ≤ low + k → has_number n xs ≡ true

next_there : (j low : ℕ) (x : Part) (xs : List Part) → RiseFrom low (x ∷ xs) → AreThere (suc j) low (x ∷ xs) → number_of x ≡ low + 1
next_there j low x xs h all =
    let first = h.0 in
    elim (or_cases (eqb (number_of x) (low + 1)) (has_number (low + 1) xs) (all (low + 1) (omega arith) (omega arith))) [
      | inl a ↦ eqb-true _ _ a
      | inr b ↦ absurd (not_below (number_of x) (low + 1) xs h.1 (omega (arith, first)) b)
    ]

rest_there : (j low : ℕ) (x : Part) (xs : List Part) → number_of x ≡ low + 1 → AreThere (suc j) low (x ∷ xs) → AreThere j (number_of x) xs
rest_there j low x xs next all n lt le = elim (or_cases (eqb (number_of x) n) (has_number n xs) (all n (omega (arith, next, lt)) (omega (arith, next, le)))) [
  | inl a ↦ let same = eqb-true (number_of x) n a in absurd (omega (arith, same, lt))
  | inr b ↦ b
]

many_there : (k low : ℕ) (xs : List Part) → RiseFrom low xs → AreThere k low xs → k ≤ length xs
many_there zero low xs h all = omega arith
many_there (suc j) low [] h all = let e = all (low + 1) (omega arith) (omega arith) in absurd cc
many_there (suc j) low (x ∷ xs) h all =
    let next = next_there j low x xs h all in
    let rest = many_there j (number_of x) xs h.1 (rest_there j low x xs next all) in
    omega (arith, rest)

pub all_within : (r : ConcatReference) (t : ℕ) (xs : List Part) → AllBelong r t xs → Within t xs
all_within r t [] h p m = absurd m
all_within r t (x ∷ xs) h p m = elim m [
  | inl e ↦ subst (λ (y : Part). number_of y ≤ t) (sym e) (belongs_parts r t x h.0).high
  | inr k ↦ all_within r t xs h.1 p k
]

-- a joiner is full exactly where each number from 1 to the total is there
pub full_is_all : (t : Taken) → IsTaken t → (is_full t ≡ true) ↔ ((n : ℕ) → 0 < n → n ≤ t.total → has_number n t.parts ≡ true)
full_is_all t h = (
  λ e. let count : length t.parts ≡ t.total = eqb-true (length t.parts) t.total e in λ n low high. all_there 0 t.total n t.parts h.in_order w (omega (arith, count)) low high,
  λ all.
      let few = few_rise 0 t.total t.parts (omega arith) h.in_order w in
      let many = many_there t.total 0 t.parts h.in_order (λ n lt le. all n lt (omega (arith, le))) in
      eq-eqb (length t.parts) t.total (omega (arith, few, many)),
)
  where
    w : Within t.total t.parts
    w = all_within t.reference t.total t.parts h.of_message

-- what joins is full
pub joined_is_full : (t : Taken) (content : Content) → IsTaken t → content_joined t.parts ≡ Some content → is_full t ≡ true
joined_is_full t content h e = by t.parts h.of_message e
  where
    by : (xs : List Part) → AllBelong t.reference t.total xs → content_joined xs ≡ Some content → eqb (length xs) t.total ≡ true
    by [] b e = absurd cc
    by (x ∷ xs) b e =
        let k = key_or_alone x.key in
        let w = and_parts (eqb k.total (length (x ∷ xs))) (bear_from k.reference k.total x.content.dcs 1 (x ∷ xs)) (joined_is_whole x xs content e) in
        let count : k.total ≡ length (x ∷ xs) = eqb-true _ _ w.0 in
        let total = (belongs_parts t.reference t.total x b.0).total_is in
        eq-eqb (length (x ∷ xs)) t.total (sym count ∙ total)

bears_from : (r : ConcatReference) (t d n : ℕ) (p : Part) → is_same_reference (key_or_alone p.key).reference r ≡ true → (key_or_alone p.key).total ≡ t → number_of p ≡ n → p.content.dcs ≡ d → bears r t d n p ≡ true
bears_from r t d n p e f g h =
    let k = key_or_alone p.key in
    and_from (is_same_reference k.reference r && eqb k.total t && eqb k.number n) (eqb p.content.dcs d)
    (and_from (is_same_reference k.reference r && eqb k.total t) (eqb k.number n) (and_from (is_same_reference k.reference r) (eqb k.total t) e (eq-eqb _ _ f)) (eq-eqb _ _ g)) (eq-eqb _ _ h)

full_bears : (r : ConcatReference) (t d low : ℕ) (xs : List Part) → RiseFrom low xs → AllBelong r t xs → low + length xs ≡ t → ((p : Part) → Among p xs → p.content.dcs ≡ d) → bear_from r t d (low + 1) xs ≡ true
full_bears r t d low [] h b e s = refl
full_bears r t d low (x ∷ xs) h b e s =
    let is = belongs_parts r t x b.0 in
    let rest = few_rise (number_of x) t xs is.high h.1 (all_within r t xs b.1) in
    let first = h.0 in
    let next : number_of x ≡ low + 1 = omega (arith, rest, first, e) in
    let one : bears r t d (low + 1) x ≡ true = bears_from r t d (low + 1) x (ap (λ (q : ConcatReference). is_same_reference q r) is.reference_is ∙ one_reference r) is.total_is next (s x (inl refl)) in
    let more : bear_from r t d (number_of x + 1) xs ≡ true = full_bears r t d (number_of x) xs h.1 b.1 (omega (arith, next, e)) (λ p m. s p (inr m)) in
    and_from (bears r t d (low + 1) x) (bear_from r t d (low + 1 + 1) xs) one (ap (λ (n : ℕ). bear_from r t d (n + 1) xs) (sym next) ∙ more)

-- a full joiner of one data coding scheme joins
pub full_joins : (t : Taken) (d : ℕ) → IsTaken t → 0 < t.total → is_full t ≡ true → ((p : Part) → Among p t.parts → p.content.dcs ≡ d) → (content : Content) × (content_joined t.parts ≡ Some content)
full_joins t d h some e s = by t.parts h.in_order h.of_message (eqb-true (length t.parts) t.total e) s
  where
    by : (xs : List Part) → RiseFrom 0 xs → AllBelong t.reference t.total xs → length xs ≡ t.total → ((p : Part) → Among p xs → p.content.dcs ≡ d) → (content : Content) × (content_joined xs ≡ Some content)
    by [] h b e s = absurd (let z : 0 ≡ t.total = e in omega (arith, z))
    by (x ∷ xs) h b e s =
        let is = belongs_parts t.reference t.total x b.0 in
        let k = key_or_alone x.key in
        let bear : bear_from t.reference t.total d 1 (x ∷ xs) ≡ true = full_bears t.reference t.total d 0 (x ∷ xs) h b (omega (arith, e)) s in
        let scheme : d ≡ x.content.dcs = sym (s x (inl refl)) in
        let same : bear_from k.reference k.total x.content.dcs 1 (x ∷ xs) ≡ true = (λ j. bear_from (is.reference_is j) (is.total_is j) (s x (inl refl) j) 1 (x ∷ xs)) ∙ bear in
        let count : eqb k.total (length (x ∷ xs)) ≡ true = eq-eqb _ _ (is.total_is ∙ sym e) in
        let whole : is_whole (x ∷ xs) ≡ true = and_from (eqb k.total (length (x ∷ xs))) (bear_from k.reference k.total x.content.dcs 1 (x ∷ xs)) count same in
        (record { coding = x.content.coding; dcs = x.content.dcs; units = units_of (x ∷ xs) }, rw whole refl)

-- ---- the code's parts

pub add_stays : (r : ConcatReference) (total : ℕ) (old new : List Part) (now : Taken) (p : Part) (b : Bool)
    → (let t : Taken = record { reference = r; total = total; parts = old } in t ≡ now) → IsTaken (record { reference = r; total = total; parts = old }) → b ≡ takes now p → b ≡ true → new ≡ inserted p old
    → IsTaken (record { reference = r; total = total; parts = new })
add_stays r total old new now p b view h is e grown =
    let t : Taken = record { reference = r; total = total; parts = old } in
    let holds : takes t p ≡ true = ap (λ (x : Taken). takes x p) view ∙ sym is ∙ e in
    subst (λ (l : List Part). IsTaken (record { reference = r; total = total; parts = l })) (sym grown) (taken_more t p h holds)

pub inserted_at : (p : Part) (xs ys : List Part) (n number : ℕ) → number ≡ number_of p → ys ≡ xs → n ≡ unwrap_or (position (λ x. ltb number (number_of x)) ys) (length ys) → insert xs n p ≡ inserted p xs
inserted_at p xs ys n number is same e =
    (found_place p xs n (e ∙ ap (λ (k : ℕ). unwrap_or (position (λ x. ltb k (number_of x)) ys) (length ys)) is ∙ ap (λ (l : List Part). unwrap_or (position (λ x. ltb (number_of p) (number_of x)) l) (length l)) same)).0

-- what stands before the place of a part, the part, and what stands behind it
pub inserted_between : (p : Part) (xs ys front back : List Part) (n number : ℕ) → number ≡ number_of p → ys ≡ xs → n ≡ unwrap_or (position (λ x. ltb number (number_of x)) ys) (length ys)
    → front ≡ take n ys → back ≡ drop n ys → front ++ p ∷ back ≡ inserted p xs
inserted_between p xs ys front back n number is same e f b =
    ap (λ (l : List Part). l ++ p ∷ back) f ∙ ap (λ (l : List Part). take n ys ++ p ∷ l) b ∙ ap (λ (l : List Part). insert l n p) same
    ∙ inserted_at p xs ys n number is same e

-- there is room for a part that is taken
length_more : (p : Part) (xs : List Part) → length (inserted p xs) ≡ length xs + 1
length_more p [] = refl
length_more p (x ∷ xs) = by (ltb (number_of p) (number_of x)) (length_more p xs)
  where
    by : (b : Bool) → length (inserted p xs) ≡ length xs + 1 → length (cond b (p ∷ x ∷ xs) (x ∷ inserted p xs)) ≡ length (x ∷ xs) + 1
    by true e = omega arith
    by false e = omega (arith, e)

pub full_with : (t : Taken) (p : Part) (n : ℕ) → n ≡ length t.parts → eqb (n + 1) t.total ≡ is_full (with_part t p)
full_with t p n e =
    let more : n + 1 ≡ length (inserted p t.parts) = e2 (length_more p t.parts) in
    ap (λ (k : ℕ). eqb k t.total) more
  where
    e2 : length (inserted p t.parts) ≡ length t.parts + 1 → n + 1 ≡ length (inserted p t.parts)
    e2 h = omega (arith, e, h)

pub room_left : (t : Taken) (p : Part) (capacity : ℕ) → IsTaken t → t.total ≤ capacity → takes t p ≡ true → length t.parts < capacity
room_left t p capacity h le e =
    let more = taken_more t p h e in
    let few = few_rise 0 t.total (inserted p t.parts) (omega arith) more.in_order (all_within t.reference t.total (inserted p t.parts) more.of_message) in
    omega (arith, few, length_more p t.parts, le)

pub test_is_all : (t : Taken) (n total : ℕ) → IsTaken t → n ≡ length t.parts → total ≡ t.total → (eqb n total ≡ true) ↔ ((number : ℕ) → 0 < number → number ≤ t.total → has_number number t.parts ≡ true)
test_is_all t n total h e f =
    let same : eqb n total ≡ is_full t = ap (λ (k : ℕ). eqb k total) e ∙ ap (λ (k : ℕ). eqb (length t.parts) k) f in
    let all = full_is_all t h in
    (λ p. all.0 (sym same ∙ p), λ p. same ∙ all.1 p)
