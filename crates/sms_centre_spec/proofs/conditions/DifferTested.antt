-- Numbers pass the test for differing ones exactly where none stands twice.
use Rattle.std.proofs.Common.{◌≡◌, ◌⊎◌, ℕ, List, [], ◌∷◌, ◌++◌, map, Bool, true, false, nat_eq, refl, sym, ◌∙◌, ap, subst, inl, inr, ⊎_elim, arith}
use Rattle.std.specs.List.{list_any}
use Rattle.std.specs.Prelude.{◌||◌}
use Rattle.std.proofs.lemmas.Bool.{cases_Bool, cond-true, cond-false, eq-eqb, eqb-true}
use Rattle.sms_base.proofs.Lists.{among_back, among_front, among_parts}
use Rattle.sms_base.proofs.Bools.{or_true}
use Rattle.sms_base.specs.Among.{Among}
use Rattle.sms_rows.specs.table.Table.{Rises}
use Rattle.sms_centre_spec.proofs.SteadyTimes.{above_among}
use Rattle.sms_centre_rows.specs.conditions.Differing.{differ, differ_by}

-- none stands twice
abbrev pub AreDistinct : {K : Type 0} → List K → Type 0
AreDistinct [] = Unit {0}
AreDistinct (k ∷ ks) = (¬ Among k ks) × AreDistinct ks

-- ---- the test, by one that tells what is the same

module _ {K : Type 0} (same : K → K → Bool) (one : (a b : K) → same a b ≡ true → a ≡ b) (own : (a b : K) → a ≡ b → same a b ≡ true) where
  any_from : (k : K) (ks : List K) → list_any (same k) ks ≡ true → Among k ks
  any_from k [] e = absurd cc
  any_from k (m ∷ ms) e = ⊎_elim
      (λ (t : same k m ≡ true). inl (one k m t))
      (λ (t : same k m ≡ false). inr (any_from k ms (sym (ap (λ (b : Bool). b || list_any (same k) ms) t) ∙ e)))
      (cases_Bool (same k m))

  any_to : (k : K) (ks : List K) → Among k ks → list_any (same k) ks ≡ true
  any_to k [] a = elim a [ ]
  any_to k (m ∷ ms) a = ⊎_elim
      (λ (e : k ≡ m). ap (λ (b : Bool). b || list_any (same k) ms) (own k m e))
      (λ (r : Among k ms). ap (λ (b : Bool). same k m || b) (any_to k ms r) ∙ or_true (same k m))
      a

  -- none of them was seen
  abbrev Unseen : List K → List K → Type 0
  Unseen seen ks = (k : K) → Among k ks → ¬ Among k seen

  from_seen : (seen ks : List K) → differ_by same seen ks ≡ true → Unseen seen ks × AreDistinct ks
  from_seen seen [] e = (λ k a. elim a [ ], tt)
  from_seen seen (n ∷ ns) e = ⊎_elim
      (λ (t : list_any (same n) seen ≡ true).
      let bad : false ≡ true = sym (cond-true (list_any (same n) seen) false (differ_by same (seen ++ n ∷ []) ns) t) ∙ e in absurd cc)
      (λ (t : list_any (same n) seen ≡ false).
      let rest = from_seen (seen ++ n ∷ []) ns (sym (cond-false (list_any (same n) seen) false (differ_by same (seen ++ n ∷ []) ns) t) ∙ e) in (
        λ k a s. ⊎_elim
            (λ (q : k ≡ n). let yes : list_any (same n) seen ≡ true = any_to n seen (subst (λ (i : K). Among i seen) q s) in let bad : true ≡ false = sym yes ∙ t in absurd cc)
            (λ (r : Among k ns). rest.0 k r (among_front k seen (n ∷ []) s))
            a,
        (λ a. rest.0 n a (among_back n seen (n ∷ []) (inl refl)), rest.1),
      ))
      (cases_Bool (list_any (same n) seen))

  to_seen : (seen ks : List K) → Unseen seen ks → AreDistinct ks → differ_by same seen ks ≡ true
  to_seen seen [] unseen distinct = refl
  to_seen seen (n ∷ ns) unseen distinct = ⊎_elim
      (λ (t : list_any (same n) seen ≡ true). absurd (unseen n (inl refl) (any_from n seen t)))
      (λ (t : list_any (same n) seen ≡ false).
      cond-false (list_any (same n) seen) false (differ_by same (seen ++ n ∷ []) ns) t
      ∙ to_seen (seen ++ n ∷ []) ns
      (λ k a s. ⊎_elim
      (λ (f : Among k seen). unseen k (inr a) f)
      (λ (b : Among k (n ∷ [])). ⊎_elim (λ (q : k ≡ n). distinct.0 (subst (λ (i : K). Among i ns) q a)) (λ (z : ⊥). z) b)
      (among_parts k seen (n ∷ []) s))
      distinct.1)
      (cases_Bool (list_any (same n) seen))

  pub by_from : (ks : List K) → differ_by same [] ks ≡ true → AreDistinct ks
  by_from ks e = (from_seen [] ks e).1

  pub by_to : (ks : List K) → AreDistinct ks → differ_by same [] ks ≡ true
  by_to ks d = to_seen [] ks (λ k a s. elim s [ ]) d

pub distinct_from : (ns : List ℕ) → differ ns ≡ true → AreDistinct ns
distinct_from ns e = by_from nat_eq (λ a b t. eqb-true a b t) (λ a b t. eq-eqb a b t) ns e

pub distinct_to : (ns : List ℕ) → AreDistinct ns → differ ns ≡ true
distinct_to ns d = by_to nat_eq (λ a b t. eqb-true a b t) (λ a b t. eq-eqb a b t) ns d

-- ---- keys of rows

module _ {A : Type 0} (key : A → ℕ) where
  pub among_map : (x : A) (xs : List A) → Among x xs → Among (key x) (map key xs)
  among_map x [] a = elim a [ ]
  among_map x (y ∷ ys) a = ⊎_elim (λ (e : x ≡ y). inl (ap key e)) (λ (r : Among x ys). inr (among_map x ys r)) a

  map_among : (k : ℕ) (xs : List A) → Among k (map key xs) → (x : A) × (Among x xs × (k ≡ key x))
  map_among k [] a = elim a [ ]
  map_among k (y ∷ ys) a = ⊎_elim
      (λ (e : k ≡ key y). (y, (inl refl, e)))
      (λ (r : Among k (map key ys)). let x = map_among k ys r in (x.0, (inr x.1.0, x.1.1)))
      a

  -- rows of one key are one
  pub one_row : (x y : A) (xs : List A) → AreDistinct (map key xs) → Among x xs → Among y xs → key x ≡ key y → x ≡ y
  one_row x y [] d a b e = elim a [ ]
  one_row x y (z ∷ zs) d a b e = ⊎_elim
      (λ (p : x ≡ z). ⊎_elim
      (λ (q : y ≡ z). p ∙ sym q)
      (λ (s : Among y zs). absurd (d.0 (subst (λ (k : ℕ). Among k (map key zs)) (sym e ∙ ap key p) (among_map y zs s))))
      b)
      (λ (r : Among x zs). ⊎_elim
      (λ (q : y ≡ z). absurd (d.0 (subst (λ (k : ℕ). Among k (map key zs)) (e ∙ ap key q) (among_map x zs r))))
      (λ (s : Among y zs). one_row x y zs d.1 r s e)
      b)
      a

  -- where rows stand in order and those of one key have one place, keys differ
  pub keys_differ : (rank : A → ℕ) (xs : List A) → Rises rank xs → ((x y : A) → Among x xs → Among y xs → key x ≡ key y → rank x ≡ rank y) → AreDistinct (map key xs)
  keys_differ rank [] rises same = tt
  keys_differ rank (y ∷ ys) rises same = (
    λ a.
        let x = map_among (key y) ys a in
        let above = above_among rank (rank y) x.0 ys rises.0 x.1.0 in
        let one = same y x.0 (inl refl) (inr x.1.0) x.1.1 in
        omega (arith, above, one),
    keys_differ rank ys rises.1 (λ x z a b e. same x z (inr a) (inr b) e),
  )
