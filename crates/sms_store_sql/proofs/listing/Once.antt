-- A tree is that of one list.
use Rattle.std.proofs.Common.{◌≡◌, ℕ, zero, suc, ◌<◌, ℤ, List, [], ◌∷◌, map, false, refl, sym, ap, ap₂, subst, ◌∙◌, arith, IsPermutation, add-one}
use Rattle.std.specs.List.{AllByRecursion}
use Rattle.std.specs.List.Sorted.{IsSortedByKey}
use Rattle.std.specs.Ordering.{nat_cmp, is_lt}
use Rattle.std.proofs.lemmas.Bool.Decides.{nat_tests}
use Rattle.sqlite.specs.Order.{Row}
use Rattle.sms_rows.specs.table.Table.{Rises}
use Rattle.sms_store_sql.specs.listing.Listing.{ListOf, IsList, Represents, with_rowid}
use Rattle.sms_store_sql.proofs.listing.Found.{sorted_is}

rising_sorted : {X : Type 0} (key : X → ℕ) (ys : List X) → Rises key ys → IsSortedByKey key nat_cmp ys
rising_sorted key [] h k d low inside = absurd (omega (arith, inside))
rising_sorted key (y ∷ []) h k d low inside = absurd (omega (arith, inside))
rising_sorted key (y ∷ z ∷ zs) h zero d low inside = not_below (key y) (key z) h.0.0
  where
    not_below : (a b : ℕ) → a < b → is_lt (nat_cmp b a) ≡ false
    not_below a b less = grind (arith, nat_tests, less)
rising_sorted key (y ∷ z ∷ zs) h (suc k) d low inside = rw add-one (rw add-one at (rising_sorted key (z ∷ zs) h.1 k d (omega arith) (omega (arith, inside))))

module _ {X : Type 0} (l : ListOf X) (is : IsList l) where
  same_values : (es fs : List (ℤ × X)) → AllByRecursion l.Fits (map (λ (e : ℤ × X). e.1) es) → AllByRecursion l.Fits (map (λ (e : ℤ × X). e.1) fs)
      → map (with_rowid l.columns) es ≡ map (with_rowid l.columns) fs → map (λ (e : ℤ × X). e.1) es ≡ map (λ (e : ℤ × X). e.1) fs
  same_values [] [] p q same = refl
  same_values [] (f ∷ fs) p q same = absurd cc
  same_values (e ∷ es) [] p q same = absurd cc
  same_values (e ∷ es) (f ∷ fs) p q same =
      let first : l.columns e.1 ≡ l.columns f.1 = cc in
      ap₂ (λ x xs. x ∷ xs) (sym (is.reads_back e.1 p.0) ∙ ap l.reads first ∙ is.reads_back f.1 q.0) (same_values es fs p.1 q.1 cc)

  pub holds_once : (rows others : List Row) (xs ys : List X) → rows ≡ others → Represents l rows xs → Represents l others ys → xs ≡ ys
  holds_once rows others xs ys same p q =
      let values = same_values p.entries q.entries p.fit q.fit (sym p.stored ∙ same ∙ q.stored) in
      sorted_is l.key _ xs ys p.listed (rising_sorted l.key xs p.rises) (subst (λ vs. IsPermutation vs ys) (sym values) q.listed) q.rises
