-- How many rows there are after a change.
use Rattle.std.proofs.Common.{◌≡◌, ℕ, ◌+◌, ◌≤◌, List, [], ◌∷◌, length, refl, ap, arith}
use Rattle.sms_rows.proofs.table.Tables.{length_put, length_without}
use Rattle.sms_centre_rows.specs.declared.waiting.progress.Progress.{Progress}
use Rattle.sms_centre_rows.specs.declared.waiting.revision.Revision.{Revision}
use Rattle.sms_centre_rows.specs.declared.waiting.revision.Revision.TheVariants.{Put, Amend, Remove}
use Rattle.sms_centre_rows.specs.waiting.Revisions.{amended, revised}

module _ {A : Type 0} (key : A → ℕ) (reaching : Progress → A → A) where
  length_amended : (n : ℕ) (q : Progress) (xs : List A) → length (amended key reaching n q xs) ≡ length xs
  length_amended n q [] = refl
  length_amended n q (x ∷ xs) = let more = length_amended n q xs in omega (arith, more)

  pub length_revised : (c : Revision A) (xs : List A) → length (revised key reaching c xs) ≤ length xs + 1
  length_revised (Put x) xs = length_put key x xs
  length_revised (Amend n q) xs = let same = length_amended n q xs in omega (arith, same)
  length_revised (Remove n) xs = omega (arith, length_without key n xs)
