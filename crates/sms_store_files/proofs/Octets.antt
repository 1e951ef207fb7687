-- What is read of a file from its beginning on.
use Rattle.std.proofs.Common.{◌≡◌, ℕ, ◌+◌, ◌<◌, ◌≤◌, List, length, slice_index, sym, ◌∙◌, ap, arith, ext_get_or, true}
use Rattle.std.proofs.lemmas.Bool.{le-leb}
use Rattle.std.specs.Prelude.{nat_le}
use Rattle.sqlite_disk.specs.Disk.{Holds}
use Rattle.sqlite_wal.specs.Format.{be32}
use Rattle.sqlite_wal.proofs.PartLemmas.{same_be32}
use Rattle.sms_store_files.specs.Reading.{mark_in}

same_at : (file bytes : List ℕ) → Holds file 0 bytes → (i : ℕ) → i < length bytes → slice_index bytes i ≡ slice_index file i
same_at file bytes holds i low =
    let here : 0 + i ≡ i = omega arith in
    sym (holds.each i low) ∙ ap (slice_index file) here

-- up to its end it is the file
pub all_held : (file bytes : List ℕ) → length bytes ≡ length file → (0 < length bytes → Holds file 0 bytes) → bytes ≡ file
all_held file bytes len holds = ext_get_or 0 bytes file len λ i low. same_at file bytes (holds (omega arith)) i low

-- its head has its mark
pub mark_of_head : (file head : List ℕ) → length head ≡ 100 → Holds file 0 head → mark_in head ≡ mark_in file
mark_of_head file head len holds =
    let name : be32 head 68 ≡ be32 file 68 = same_be32 head file 68 68 λ i low. same_at file head holds (68 + i) (omega (arith, len)) in
    let number : be32 head 60 ≡ be32 file 60 = same_be32 head file 60 60 λ i low. same_at file head holds (60 + i) (omega (arith, len)) in
    let there : nat_le 100 (length head) ≡ true = le-leb 100 (length head) (omega (arith, len)) in
    let within : nat_le 100 (length file) ≡ true = le-leb 100 (length file) (omega (arith, len, holds.within)) in
    cc
