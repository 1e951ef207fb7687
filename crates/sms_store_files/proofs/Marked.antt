-- Two writes of four octets leave a file with a mark.
use Rattle.std.proofs.Common.{◌≡◌, ◌⊎◌, ℕ, ◌+◌, ◌≤◌, ◌<◌, List, length, slice_index, sym, ◌∙◌, ap, arith, inl, inr}
use Rattle.sqlite_disk.specs.Disk.{Holds, Torn}
use Rattle.sqlite_wal.specs.Format.{be32}
use Rattle.sqlite_wal.proofs.PartLemmas.{same_be32}
use Rattle.sms_store_files.specs.Marking.{number_of}
use Rattle.sms_store_files.specs.Reading.{application}
use Rattle.sms_store_files.specs.Writing.{IsMarked}
use Rattle.sms_store_files.specs.declared.marking.Mark.{Mark}

from_start : (file bytes : List ℕ) (at : ℕ) → Holds file at bytes → (i : ℕ) → i < length bytes → slice_index file (at + i) ≡ slice_index bytes (0 + i)
from_start file bytes at held i low =
    let here : i ≡ 0 + i = omega arith in
    held.each i low ∙ ap (slice_index bytes) here

module _ (mark : Mark) (old between new name number : List ℕ)
    (named : Torn 68 (length name) old between) (name_held : Holds between 68 name) (numbered : Torn 60 (length number) between new) (number_held : Holds new 60 number)
    (name_long : length name ≡ 4) (number_long : length number ≡ 4) where
  stays : (i : ℕ) → i < length old → (i < 60) ⊎ (((64 ≤ i) × (i < 68)) ⊎ (72 ≤ i)) → slice_index new i ≡ slice_index old i
  stays i there (inl low) = numbered.below i (omega (arith, named.no_shorter, name_long, number_long)) low ∙ named.below i there (omega (arith, name_long))
  stays i there (inr (inl middle)) = numbered.above i (omega (arith, named.no_shorter, name_long, number_long)) (omega (arith, number_long, middle.0)) ∙ named.below i there middle.1
  stays i there (inr (inr high)) = numbered.above i (omega (arith, named.no_shorter, name_long, number_long)) (omega (arith, number_long, high)) ∙ named.above i there (omega (arith, name_long, high))

  pub marked : be32 name 0 ≡ application → be32 number 0 ≡ number_of mark → IsMarked mark old new
  marked names numbers = record {
    number = same_be32 new number 60 0 (λ i low. from_start new number 60 number_held i (omega (arith, number_long))) ∙ numbers;
    names = same_be32 new between 68 68 (λ i low. numbered.above (68 + i) (omega (arith, name_held.within, name_long)) (omega (arith, number_long)))
        ∙ (same_be32 between name 68 0 (λ i low. from_start between name 68 name_held i (omega (arith, name_long))) ∙ names);
    others = stays;
  }
