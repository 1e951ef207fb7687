-- What a group's entries were taken to be is what the group joins to.
use Rattle.std.proofs.Common.{◌≡◌, ℕ, zero, suc, ◌<◌, ◌≤◌, Bool, true, false, cond, ◌&&◌, ◌||◌, eqb, List, [], ◌∷◌, ◌++◌, Option, Some, None, refl, sym, ap, subst, ◌∙◌, arith, inl, inr, eqb-true, eq-eqb}
use Rattle.std.specs.Prelude.{◌⊎◌}
use Rattle.std.proofs.lemmas.Bool.{or_cases, and_parts, cases_eq, cond-true, cond-false}
use Rattle.sms_base.proofs.Lists.{among_end}
use Rattle.sms_base.specs.Among.{Among}
use Rattle.sms_concat.specs.declared.content.Part.{Part as PartOf}
use Rattle.sms_concat.specs.Joining.{content_joined}
use Rattle.sms_concat.specs.joiner.StepwiseJoining.{Taken, IsTaken, RiseFrom, is_full, number_of, takes, with_part, has_number}
use Rattle.sms_concat.proofs.joiner.Stepwise.{above, all_within, found_number, full_is_all, here_inserted, in_inserted, one_of_number, one_order, taken_more, there_inserted}
use Rattle.sms_handset_rows.specs.declared.inbox.entry.Entry.{Entry}
use Rattle.sms_handset_rows.specs.declared.inbox.entry.Group.{Group}
use Rattle.sms_handset_rows.specs.inbox.Groups.{entry_part, joined_content, joined_parts, part_number, part_with, parts_to, with_part as with_read, all_numbers, is_among, part_numbers}
use Rattle.sms_handset_rows.specs.inbox.TakenParts.{carried_by, none_of, numbered, taken_from, taken_of, with_taken}

-- one entry more
pub taken_push : (t : Option Taken) (es : List Entry) (e : Entry) → taken_from t (es ++ e ∷ []) ≡ with_taken (taken_from t es) (carried_by e)
taken_push t [] e = refl
taken_push t (x ∷ xs) e = taken_push (with_taken t (carried_by x)) xs e

none_stays : (es : List Entry) → taken_from None es ≡ None
none_stays [] = refl
none_stays (e ∷ es) = none_stays es

-- ---- each entry's part was taken

-- the part of an entry
record HasPart (e : Entry) (t : Taken) : Type 0 where
  part : PartOf
  read : entry_part (Some e) ≡ Some part
  number : number_of part ≡ part_number e.message
  there : Among part t.parts

-- the entry of a part
record HasEntry (p : PartOf) (es : List Entry) : Type 0 where
  entry : Entry
  there : Among entry es
  number : part_number entry.message ≡ number_of p

record Gathered (before t : Taken) (es : List Entry) : Type 0 where
  taken : IsTaken t
  total : t.total ≡ before.total
  kept : (p : PartOf) → Among p before.parts → Among p t.parts
  each : (e : Entry) → Among e es → HasPart e t
  back : (p : PartOf) → Among p t.parts → Among p before.parts ⊎ HasEntry p es

numbered_is : (n : ℕ) (o : Option PartOf) (p : PartOf) → numbered n o ≡ Some p → (o ≡ Some p) × (number_of p ≡ n)
numbered_is n None p e = absurd cc
numbered_is n (Some q) p e = by (eqb (number_of q) n) refl e
  where
    by : (b : Bool) → eqb (number_of q) n ≡ b → cond b (Some q) None ≡ Some p → (Some q ≡ Some p) × (number_of p ≡ n)
    by true t e = let same : q ≡ p = cc in (e, ap (λ (x : PartOf). number_of x) (sym same) ∙ eqb-true (number_of q) n t)
    by false t e = absurd cc

behind : (p : PartOf) (x : Entry) (xs : List Entry) → HasEntry p xs → HasEntry p (x ∷ xs)
behind p x xs h = record { entry = h.entry; there = inr h.there; number = h.number }

one_more : (t u : Taken) (e : Entry) (es : List Entry) (p : PartOf) → entry_part (Some e) ≡ Some p → number_of p ≡ part_number e.message
    → Gathered (with_part t p) u es → Gathered t u (e ∷ es)
one_more t u e es p read number g = record {
  taken = g.taken;
  total = g.total;
  kept = λ q m. g.kept q (there_inserted q p t.parts m);
  each = λ x m. elim m [
    | inl s ↦ record {
      part = p;
      read = ap (λ (y : Entry). entry_part (Some y)) s ∙ read;
      number = number ∙ ap (λ (y : Entry). part_number y.message) (sym s);
      there = g.kept p (here_inserted p t.parts);
    }
    | inr n ↦ g.each x n
  ];
  back = λ q m. elim (g.back q m) [
    | inl k ↦ elim (in_inserted q p t.parts k) [
      | inl s ↦ inr (record { entry = e; there = inl refl; number = sym number ∙ ap (λ (y : PartOf). number_of y) (sym s) })
      | inr n ↦ inl n
    ]
    | inr h ↦ inr (behind q e es h)
  ];
}

none_on : (es : List Entry) (u : Taken) → taken_from None es ≡ Some u → ⊥
none_on es u q = let bad : None ≡ Some u = sym (none_stays es) ∙ q in absurd cc

took : (t u : Taken) (e : Entry) (es : List Entry) (p : PartOf) (b : Bool) → carried_by e ≡ Some p → takes t p ≡ b
    → (takes t p ≡ true → taken_from (Some (with_part t p)) es ≡ Some u → Gathered (with_part t p) u es)
    → taken_from (cond b (Some (with_part t p)) None) es ≡ Some u → Gathered t u (e ∷ es)
took t u e es p true s k rest q =
    let is = numbered_is (part_number e.message) (entry_part (Some e)) p s in
    one_more t u e es p is.0 is.1 (rest k q)
took t u e es p false s k rest q = absurd (none_on es u q)

gathered_by : (t u : Taken) (e : Entry) (es : List Entry) (c : Option PartOf) → carried_by e ≡ c
    → ((p : PartOf) → takes t p ≡ true → taken_from (Some (with_part t p)) es ≡ Some u → Gathered (with_part t p) u es)
    → taken_from (with_taken (Some t) c) es ≡ Some u → Gathered t u (e ∷ es)
gathered_by t u e es None s rest q = absurd (none_on es u q)
gathered_by t u e es (Some p) s rest q = took t u e es p (takes t p) s refl (rest p) q

gathered : (t : Taken) (es : List Entry) (u : Taken) → IsTaken t → taken_from (Some t) es ≡ Some u → Gathered t u es
gathered t [] u h e =
    let same : t ≡ u = cc in
    subst (λ (x : Taken). Gathered t x []) same (record { taken = h; total = refl; kept = λ p m. m; each = λ x m. absurd m; back = λ p m. inl m })
gathered t (e ∷ es) u h q = gathered_by t u e es (carried_by e) refl (λ p k r. gathered (with_part t p) es u (taken_more t p h k) r) q

-- ---- the parts by number

-- the entry of a number that is there
record HasNumber (n : ℕ) (es : List Entry) : Type 0 where
  entry : Entry
  found : part_with n es ≡ Some entry
  there : Among entry es
  number : part_number entry.message ≡ n

number_by : (n : ℕ) (e x : Entry) (xs : List Entry) (b : Bool) → eqb (part_number x.message) n ≡ b → (Among e xs → HasNumber n xs) → (e ≡ x) ⊎ Among e xs → part_number e.message ≡ n → HasNumber n (x ∷ xs)
number_by n e x xs true t rest m q = record {
  entry = x;
  found = cond-true (eqb (part_number x.message) n) (Some x) (part_with n xs) t;
  there = inl refl;
  number = eqb-true (part_number x.message) n t;
}
number_by n e x xs false t rest m q = elim m [
  | inl s ↦
      let there : eqb (part_number x.message) n ≡ true = eq-eqb (part_number x.message) n (ap (λ (y : Entry). part_number y.message) (sym s) ∙ q) in
      let bad : true ≡ false = sym there ∙ t in absurd cc
  | inr k ↦
      let r = rest k in
      record { entry = r.entry; found = cond-false (eqb (part_number x.message) n) (Some x) (part_with n xs) t ∙ r.found; there = inr r.there; number = r.number }
]

number_there : (n : ℕ) (e : Entry) (es : List Entry) → Among e es → part_number e.message ≡ n → HasNumber n es
number_there n e [] m q = absurd m
number_there n e (x ∷ xs) m q = number_by n e x xs (eqb (part_number x.message) n) refl (λ k. number_there n e xs k q) m q

among_front : (p q : PartOf) (ps : List PartOf) → Among p ps → Among p (ps ++ q ∷ [])
among_front p q [] m = absurd m
among_front p q (x ∷ xs) m = elim m [ inl e ↦ inl e | inr k ↦ inr (among_front p q xs k) ]

among_last : (q : PartOf) (ps : List PartOf) → Among q (ps ++ q ∷ [])
among_last q [] = inl refl
among_last q (x ∷ xs) = inr (among_last q xs)

rises_push : (low : ℕ) (q : PartOf) (ps : List PartOf) → RiseFrom low ps → low < number_of q → ((p : PartOf) → Among p ps → number_of p < number_of q) → RiseFrom low (ps ++ q ∷ [])
rises_push low q [] h l w = (l, tt)
rises_push low q (x ∷ xs) h l w = (h.0, rises_push (number_of x) q xs h.1 (w x (inl refl)) (λ p m. w p (inr m)))

-- the parts up to a number
record Collected (n : ℕ) (t : Taken) (es : List Entry) : Type 0 where
  parts : List PartOf
  are : parts_to n es ≡ Some parts
  rise : RiseFrom 0 parts
  within : (p : PartOf) → Among p parts → number_of p ≤ n
  mine : (p : PartOf) → Among p parts → Among p t.parts
  all : (p : PartOf) → Among p t.parts → number_of p ≤ n → Among p parts

next_collected : (m : ℕ) (t : Taken) (es : List Entry) (e : Entry) → IsTaken t → part_with (suc m) es ≡ Some e → part_number e.message ≡ suc m → HasPart e t
    → Collected m t es → Collected (suc m) t es
next_collected m t es e h found number has c =
    let p = has.part in
    let is : number_of p ≡ suc m = has.number ∙ number in
    record {
      parts = c.parts ++ p ∷ [];
      are = ap (λ (o : Option (List PartOf)). with_read o (entry_part (part_with (suc m) es))) c.are
          ∙ ap (λ (o : Option Entry). with_read (Some c.parts) (entry_part o)) found
          ∙ ap (λ (o : Option PartOf). with_read (Some c.parts) o) has.read;
      rise = rises_push 0 p c.parts c.rise (omega (arith, is)) (λ q k. let le = c.within q k in omega (arith, is, le));
      within = λ q k. elim (among_end q p c.parts k) [
        | inl a ↦ let le = c.within q a in omega (arith, le)
        | inr s ↦ let same : number_of q ≡ number_of p = ap (λ (y : PartOf). number_of y) s in omega (arith, same, is)
      ];
      mine = λ q k. elim (among_end q p c.parts k) [
        | inl a ↦ c.mine q a
        | inr s ↦ subst (λ (y : PartOf). Among y t.parts) (sym s) has.there
      ];
      all = λ q k le. elim (cases_eq (number_of q) (suc m)) [
        | inl s ↦
            let same = one_of_number 0 q p t.parts h.in_order k has.there (s ∙ sym is) in
            subst (λ (y : PartOf). Among y (c.parts ++ p ∷ [])) (sym same) (among_last p c.parts)
        | inr ne ↦ among_front q p c.parts (c.all q k (below (number_of q) m le ne))
      ];
    }
  where
    below : (a b : ℕ) → a ≤ suc b → (a ≡ suc b → ⊥) → a ≤ b
    below a b le ne = omega (arith, le, ne)

collected : (n : ℕ) (g : Group) (t : Taken) (es : List Entry) → Gathered (none_of g) t es → is_full t ≡ true → n ≤ t.total → Collected n t es
collected zero g t es h f le = record {
  parts = [];
  are = refl;
  rise = tt;
  within = λ p m. absurd m;
  mine = λ p m. absurd m;
  all = λ p m le. let lt = above 0 p t.parts h.taken.in_order m in absurd (omega (arith, lt, le));
}
collected (suc m) g t es h f le =
    let has = (full_is_all t h.taken).0 f (suc m) (omega arith) le in
    let q = found_number (suc m) t.parts has in
    elim (h.back q.0 q.1.0) [
      | inl k ↦ absurd k
      | inr r ↦
          let e = number_there (suc m) r.entry es r.there (r.number ∙ q.1.1) in
          next_collected m t es e.entry h.taken e.found e.number (h.each e.entry e.there) (collected m g t es h f (omega (arith, le)))
    ]

-- ---- a full group

none_in_order : (g : Group) → IsTaken (none_of g)
none_in_order g = record { of_message = tt; in_order = tt }

-- what was taken of a full group joins to the group's content
pub full_joins : (g : Group) (es : List Entry) (t : Taken) → taken_of g es ≡ Some t → is_full t ≡ true → joined_content g es ≡ content_joined t.parts
full_joins g es t e f =
    let h = gathered (none_of g) es t (none_in_order g) e in
    let total : g.total ≡ t.total = sym h.total in
    let c = collected g.total g t es h f (omega (arith, total)) in
    let high = all_within t.reference t.total t.parts h.taken.of_message in
    let same : c.parts ≡ t.parts = one_order 0 0 c.parts t.parts c.rise h.taken.in_order c.mine (λ p m. c.all p m (let le = high p m in omega (arith, total, le))) in
    ap (λ (o : Option (List PartOf)). joined_parts o) c.are ∙ ap (λ (ps : List PartOf). content_joined ps) same

-- the same with one more part
pub taken_joins : (g : Group) (ms : List Entry) (e : Entry) (t : Taken) (p : PartOf) (b : Bool) → taken_of g ms ≡ Some t → Some p ≡ carried_by e
    → b ≡ (takes t p && is_full (with_part t p)) → b ≡ true → content_joined (with_part t p).parts ≡ joined_content g (ms ++ e ∷ [])
taken_joins g ms e t p b s q is t' =
    let both = and_parts (takes t p) (is_full (with_part t p)) (sym is ∙ t') in
    let more : taken_of g (ms ++ e ∷ []) ≡ Some (with_part t p) =
    taken_push (Some (none_of g)) ms e ∙ ap (λ (o : Option Taken). with_taken o (carried_by e)) s ∙ ap (λ (o : Option PartOf). with_taken (Some t) o) (sym q)
    ∙ cond-true (takes t p) (Some (with_part t p)) None both.0 in
    sym (full_joins g (ms ++ e ∷ []) (with_part t p) more both.1)

-- ---- each number is there

every_number : (total n : ℕ) (ns : List ℕ) → all_numbers total ns ≡ true → 0 < n → n ≤ total → is_among n ns ≡ true
every_number zero n ns h low high = absurd (omega (arith, low, high))
every_number (suc m) n ns h low high =
    let both = and_parts (is_among (suc m) ns) (all_numbers m ns) h in
    elim (cases_eq n (suc m)) [
      | inl e ↦ ap (λ (k : ℕ). is_among k ns) e ∙ both.0
      | inr ne ↦ every_number m n ns both.1 low (below n m high ne)
    ]
  where
    below : (a b : ℕ) → a ≤ suc b → (a ≡ suc b → ⊥) → a ≤ b
    below a b le ne = omega (arith, le, ne)

entry_of_number : (n : ℕ) (es : List Entry) → is_among n (part_numbers es) ≡ true → (e : Entry) × (Among e es × (part_number e.message ≡ n))
entry_of_number n [] h = absurd cc
entry_of_number n (x ∷ xs) h = elim (or_cases (eqb (part_number x.message) n) (is_among n (part_numbers xs)) h) [
  | inl a ↦ (x, (inl refl, eqb-true (part_number x.message) n a))
  | inr b ↦ let r = entry_of_number n xs b in (r.0, (inr r.1.0, r.1.1))
]

number_of_part : (n : ℕ) (p : PartOf) (ps : List PartOf) → Among p ps → number_of p ≡ n → has_number n ps ≡ true
number_of_part n p [] m e = absurd m
number_of_part n p (x ∷ xs) m e = elim m [
  | inl s ↦ ap (λ (b : Bool). b || has_number n xs) (eq-eqb (number_of x) n (ap (λ (y : PartOf). number_of y) (sym s) ∙ e))
  | inr k ↦ either (eqb (number_of x) n) (has_number n xs) (number_of_part n p xs k e)
]
  where
    either : (a b : Bool) → b ≡ true → (a || b) ≡ true
    either true b h = refl
    either false b h = h

-- what was taken of a group whose numbers are all there joins to the group's content
pub all_join : (g : Group) (es : List Entry) (t : Taken) → taken_of g es ≡ Some t → all_numbers g.total (part_numbers es) ≡ true → joined_content g es ≡ content_joined t.parts
all_join g es t e all =
    let h = gathered (none_of g) es t (none_in_order g) e in
    let total : t.total ≡ g.total = h.total in
    full_joins g es t e
    ((full_is_all t h.taken).1 (λ n low high.
    let r = entry_of_number n es (every_number g.total n (part_numbers es) all low (omega (arith, total, high))) in
    let has = h.each r.0 r.1.0 in
    number_of_part n has.part t.parts has.there (has.number ∙ r.1.1)))
