-- Keys that some rows of two lists have: where none stands twice, rows of one key are one, and no row of the other list has it.
use Rattle.std.proofs.Common.{◌≡◌, ◌⊎◌, ℕ, List, [], ◌∷◌, ◌++◌, filter_map, Option, Some, None, refl, sym, ◌∙◌, ap, subst, inl, inr, ⊎_elim, arith}
use Rattle.std.specs.List.{cons_option}
use Rattle.sms_base.proofs.Lists.{among_back, among_front, among_parts}
use Rattle.sms_base.specs.Among.{Among}
use Rattle.sms_rows.specs.table.Table.{Rises}
use Rattle.sms_centre_spec.proofs.SteadyTimes.{above_among}
use Rattle.sms_centre_spec.proofs.conditions.DifferTested.{AreDistinct}

-- ---- two lists

pub distinct_front : (xs ys : List ℕ) → AreDistinct (xs ++ ys) → AreDistinct xs
distinct_front [] ys d = tt
distinct_front (x ∷ xs) ys d = (λ a. d.0 (among_front x xs ys a), distinct_front xs ys d.1)

pub distinct_back : (xs ys : List ℕ) → AreDistinct (xs ++ ys) → AreDistinct ys
distinct_back [] ys d = d
distinct_back (x ∷ xs) ys d = distinct_back xs ys d.1

pub not_both : (k : ℕ) (xs ys : List ℕ) → AreDistinct (xs ++ ys) → Among k xs → Among k ys → ⊥
not_both k [] ys d a b = a
not_both k (x ∷ xs) ys d a b = ⊎_elim
    (λ (e : k ≡ x). d.0 (subst (λ (i : ℕ). Among i (xs ++ ys)) e (among_back k xs ys b)))
    (λ (r : Among k xs). not_both k xs ys d.1 r b)
    a

pub distinct_both : (xs ys : List ℕ) → AreDistinct xs → AreDistinct ys → ((k : ℕ) → Among k xs → Among k ys → ⊥) → AreDistinct (xs ++ ys)
distinct_both [] ys d e f = e
distinct_both (x ∷ xs) ys d e f = (
  λ a. ⊎_elim (λ (r : Among x xs). d.0 r) (λ (b : Among x ys). f x (inl refl) b) (among_parts x xs ys a),
  distinct_both xs ys d.1 e (λ k a b. f k (inr a) b),
)

-- ---- rows that have keys

module _ {A K : Type 0} (f : A → Option K) where
  among_cons : (k : K) (o : Option K) (ks : List K) → Among k ks → Among k (cons_option o ks)
  among_cons k None ks a = a
  among_cons k (Some n) ks a = inr a

  own_cons : (k : K) (o : Option K) (ks : List K) → o ≡ Some k → Among k (cons_option o ks)
  own_cons k None ks e = absurd cc
  own_cons k (Some n) ks e = let same : k ≡ n = cc in inl same

  pub preserved_among : (x : A) (k : K) (xs : List A) → Among x xs → f x ≡ Some k → Among k (filter_map f xs)
  preserved_among x k [] a e = a
  preserved_among x k (y ∷ ys) a e = ⊎_elim
      (λ (q : x ≡ y). own_cons k (f y) (filter_map f ys) (sym (ap f q) ∙ e))
      (λ (r : Among x ys). among_cons k (f y) (filter_map f ys) (preserved_among x k ys r e))
      a

  cons_among : (k : K) (o : Option K) (ks : List K) → Among k (cons_option o ks) → (o ≡ Some k) ⊎ Among k ks
  cons_among k None ks a = inr a
  cons_among k (Some n) ks a = ⊎_elim (λ (e : k ≡ n). inl (ap (λ (i : K). Some i) (sym e))) (λ (r : Among k ks). inr r) a

  pub among_preserved : (k : K) (xs : List A) → Among k (filter_map f xs) → (x : A) × (Among x xs × (f x ≡ Some k))
  among_preserved k [] a = elim a [ ]
  among_preserved k (y ∷ ys) a = ⊎_elim
      (λ (e : f y ≡ Some k). (y, (inl refl, e)))
      (λ (r : Among k (filter_map f ys)). let x = among_preserved k ys r in (x.0, (inr x.1.0, x.1.1)))
      (cons_among k (f y) (filter_map f ys) a)

  distinct_rest : (o : Option K) (ks : List K) → AreDistinct (cons_option o ks) → AreDistinct ks
  distinct_rest None ks d = d
  distinct_rest (Some n) ks d = d.1

  not_again : (k : K) (o : Option K) (ks : List K) → AreDistinct (cons_option o ks) → o ≡ Some k → Among k ks → ⊥
  not_again k None ks d e a = absurd cc
  not_again k (Some n) ks d e a = let same : k ≡ n = cc in d.0 (subst (λ (i : K). Among i ks) same a)

  pub one_preserved : (x y : A) (k : K) (xs : List A) → AreDistinct (filter_map f xs) → Among x xs → Among y xs → f x ≡ Some k → f y ≡ Some k → x ≡ y
  one_preserved x y k [] d a b e g = elim a [ ]
  one_preserved x y k (z ∷ zs) d a b e g = ⊎_elim
      (λ (p : x ≡ z). ⊎_elim
      (λ (q : y ≡ z). p ∙ sym q)
      (λ (s : Among y zs). absurd (not_again k (f z) (filter_map f zs) d (sym (ap f p) ∙ e) (preserved_among y k zs s g)))
      b)
      (λ (r : Among x zs). ⊎_elim
      (λ (q : y ≡ z). absurd (not_again k (f z) (filter_map f zs) d (sym (ap f q) ∙ g) (preserved_among x k zs r e)))
      (λ (s : Among y zs). one_preserved x y k zs (distinct_rest (f z) (filter_map f zs) d) r s e g)
      b)
      a

  cons_distinct : (o : Option K) (ks : List K) → AreDistinct ks → ((k : K) → o ≡ Some k → Among k ks → ⊥) → AreDistinct (cons_option o ks)
  cons_distinct None ks d g = d
  cons_distinct (Some n) ks d g = (λ a. g n refl a, d)

  pub preserved_differ : (rank : A → ℕ) (xs : List A) → Rises rank xs → ((x y : A) (k : K) → Among x xs → Among y xs → f x ≡ Some k → f y ≡ Some k → rank x ≡ rank y) → AreDistinct (filter_map f xs)
  preserved_differ rank [] rises same = tt
  preserved_differ rank (y ∷ ys) rises same =
      cons_distinct (f y) (filter_map f ys) (preserved_differ rank ys rises.1 (λ x z k a b e g. same x z k (inr a) (inr b) e g))
      (λ k e a.
      let x = among_preserved k ys a in
      let above = above_among rank (rank y) x.0 ys rises.0 x.1.0 in
      let one = same y x.0 k (inl refl) (inr x.1.0) e x.1.1 in
      omega (arith, above, one))
