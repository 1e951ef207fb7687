-- The order of the rows that say what a store is does not matter.
use Rattle.std.proofs.Common.{◌≡◌, ℕ, List, [], ◌∷◌, length, refl, ap, arith, IsPermutation}
use Rattle.std.proofs.lemmas.List.Sorted.{length_permutation}
use Rattle.sms_store_sql.specs.declared.listing.meta.Meta.{Meta}
use Rattle.sms_store_sql.specs.declared.listing.meta.StoreKind.{StoreKind}
use Rattle.sms_store_sql.specs.schema.Judged.{judged}
use Rattle.sms_store_sql.proofs.listing.OneRow.{same_few}

pub judged_alike : (kind : StoreKind) (version : ℕ) (xs ps : List Meta) → IsPermutation xs ps → judged kind version ps ≡ judged kind version xs
judged_alike kind version [] ps turned = ap (judged kind version) (same_few [] ps turned (omega arith))
judged_alike kind version (x ∷ []) ps turned = ap (judged kind version) (same_few (x ∷ []) ps turned (omega arith))
judged_alike kind version (x ∷ y ∷ more) ps turned = go ps (length_permutation (x ∷ y ∷ more) ps turned)
  where
    go : (qs : List Meta) → length qs ≡ length (x ∷ y ∷ more) → judged kind version qs ≡ judged kind version (x ∷ y ∷ more)
    go [] long = absurd (omega (arith, long))
    go (p ∷ []) long = absurd (omega (arith, long))
    go (p ∷ q ∷ rest) long = refl
