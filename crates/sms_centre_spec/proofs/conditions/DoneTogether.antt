-- Whether all parts of a message are done is told by those that stand between its keys.
use Rattle.std.proofs.Common.{◌≡◌, ℕ, ◌+◌, ◌<◌, ◌≤◌, List, [], ◌∷◌, sym, ap, subst, inl, inr, ⊎_elim, arith}
use Rattle.std.specs.List.{list_all}
use Rattle.std.specs.Prelude.{nat_lt}
use Rattle.std.proofs.lemmas.Bool.{cases_lt, cond-true, cond-false, le-ltb, lt-ltb}
use Rattle.sms_base.proofs.Bools.{same_bool}
use Rattle.sms_base.specs.Among.{Among}
use Rattle.sms_rows.specs.table.Keys.{pair_key}
use Rattle.sms_rows.specs.table.Table.{Rises, rows_before, rows_from}
use Rattle.sms_centre_rows.specs.declared.messages.part.PartRow.{PartRow}
use Rattle.sms_centre_rows.specs.messages.Messages.{all_done, part_key}
use Rattle.sms_centre_spec.proofs.SteadyTimes.{above_among}
use Rattle.sms_centre_rows.specs.conditions.MessageTest.{is_done, parts_with}
use Rattle.sms_centre_rows.proofs.conditions.Passing.{each_from, each_to}
use Rattle.sms_centre_rows.proofs.messages.Entries.{all_from, member_done}

-- ---- rows between two keys

module _ {A : Type 0} (key : A → ℕ) where
  from_among : (n : ℕ) (x : A) (xs : List A) → Rises key xs → Among x (rows_from key n xs) → Among x xs × (n ≤ key x)
  from_among n x [] rises m = elim m [ ]
  from_among n x (y ∷ ys) rises m = ⊎_elim
      (λ (l : key y < n).
      let r = from_among n x ys rises.1 (subst (λ (zs : List A). Among x zs) (cond-true (nat_lt (key y) n) (rows_from key n ys) (y ∷ ys) (lt-ltb (key y) n l)) m) in
      (inr r.0, r.1))
      (λ (l : n ≤ key y).
      let m2 : Among x (y ∷ ys) = subst (λ (zs : List A). Among x zs) (cond-false (nat_lt (key y) n) (rows_from key n ys) (y ∷ ys) (le-ltb (key y) n l)) m in
      (m2, ⊎_elim (λ (e : x ≡ y). subst (λ (z : A). n ≤ key z) (sym e) l) (λ (a : Among x ys). let above = above_among key (key y) x ys rises.0 a in omega (arith, above, l)) m2))
      (cases_lt (key y) n)

  among_from : (n : ℕ) (x : A) (xs : List A) → Among x xs → n ≤ key x → Among x (rows_from key n xs)
  among_from n x [] m l = m
  among_from n x (y ∷ ys) m l = ⊎_elim
      (λ (b : key y < n).
      subst (λ (zs : List A). Among x zs) (sym (cond-true (nat_lt (key y) n) (rows_from key n ys) (y ∷ ys) (lt-ltb (key y) n b)))
      (among_from n x ys (⊎_elim (λ (e : x ≡ y). let same : key x ≡ key y = ap key e in absurd (omega (arith, same, b, l))) (λ (a : Among x ys). a) m) l))
      (λ (b : n ≤ key y). subst (λ (zs : List A). Among x zs) (sym (cond-false (nat_lt (key y) n) (rows_from key n ys) (y ∷ ys) (le-ltb (key y) n b))) m)
      (cases_lt (key y) n)

  rises_from : (n : ℕ) (xs : List A) → Rises key xs → Rises key (rows_from key n xs)
  rises_from n [] rises = tt
  rises_from n (y ∷ ys) rises = ⊎_elim
      (λ (b : key y < n). subst (λ (zs : List A). Rises key zs) (sym (cond-true (nat_lt (key y) n) (rows_from key n ys) (y ∷ ys) (lt-ltb (key y) n b))) (rises_from n ys rises.1))
      (λ (b : n ≤ key y). subst (λ (zs : List A). Rises key zs) (sym (cond-false (nat_lt (key y) n) (rows_from key n ys) (y ∷ ys) (le-ltb (key y) n b))) rises)
      (cases_lt (key y) n)

  before_among : (n : ℕ) (x : A) (xs : List A) → Among x (rows_before key n xs) → Among x xs × (key x < n)
  before_among n x [] m = elim m [ ]
  before_among n x (y ∷ ys) m = ⊎_elim
      (λ (l : key y < n).
      let m2 : Among x (y ∷ rows_before key n ys) = subst (λ (zs : List A). Among x zs) (cond-true (nat_lt (key y) n) (y ∷ rows_before key n ys) [] (lt-ltb (key y) n l)) m in
      ⊎_elim
      (λ (e : x ≡ y). let is : Among x (y ∷ ys) = inl e in (is, subst (λ (z : A). key z < n) (sym e) l))
      (λ (a : Among x (rows_before key n ys)). let r = before_among n x ys a in let is : Among x (y ∷ ys) = inr r.0 in (is, r.1))
      m2)
      (λ (l : n ≤ key y). absurd (subst (λ (zs : List A). Among x zs) (cond-false (nat_lt (key y) n) (y ∷ rows_before key n ys) [] (le-ltb (key y) n l)) m))
      (cases_lt (key y) n)

  among_before : (n : ℕ) (x : A) (xs : List A) → Rises key xs → Among x xs → key x < n → Among x (rows_before key n xs)
  among_before n x [] rises m l = m
  among_before n x (y ∷ ys) rises m l =
      let low : key y < n = ⊎_elim (λ (e : x ≡ y). subst (λ (z : A). key z < n) e l) (λ (a : Among x ys). let above = above_among key (key y) x ys rises.0 a in omega (arith, above, l)) m in
      subst (λ (zs : List A). Among x zs) (sym (cond-true (nat_lt (key y) n) (y ∷ rows_before key n ys) [] (lt-ltb (key y) n low)))
      (⊎_elim (λ (e : x ≡ y). inl e) (λ (a : Among x ys). inr (among_before n x ys rises.1 a l)) m)

-- ---- the parts of a message

own_among : (id : ℕ) (p : PartRow) (ps : List PartRow) → Rises part_key ps → Among p ps → p.number < 256 → p.id ≡ id → Among p (parts_with id ps)
own_among id p ps rises m short own =
    among_before part_key (pair_key (id + 1) 0) p (rows_from part_key (pair_key id 0) ps) (rises_from part_key (pair_key id 0) ps rises)
    (among_from part_key (pair_key id 0) p ps m (omega (arith, own, short))) (omega (arith, own, short))

among_own : (id : ℕ) (p : PartRow) (ps : List PartRow) → Rises part_key ps → ((x : PartRow) → Among x ps → x.number < 256) → Among p (parts_with id ps) → Among p ps × (p.id ≡ id)
among_own id p ps rises short m =
    let b = before_among part_key (pair_key (id + 1) 0) p (rows_from part_key (pair_key id 0) ps) m in
    let f = from_among part_key (pair_key id 0) p ps rises b.0 in
    let few = short p f.0 in
    (f.0, omega (arith, b.1, f.1, few))

-- ---- all done

pub done_together : (id : ℕ) (ps : List PartRow) → Rises part_key ps → ((p : PartRow) → Among p ps → p.number < 256) → list_all is_done (parts_with id ps) ≡ all_done id ps
done_together id ps rises short = same_bool (list_all is_done (parts_with id ps)) (all_done id ps)
    (λ e. all_from id ps (λ p m own. each_from is_done (parts_with id ps) e p (own_among id p ps rises m (short p m) own)))
    (λ e. each_to is_done (parts_with id ps) (λ p m. let a = among_own id p ps rises short m in member_done id p ps e a.0 a.1))
