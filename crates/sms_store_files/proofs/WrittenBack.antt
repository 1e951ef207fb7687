-- A log that was recovered and finished has its pages in the database file.
use Rattle.std.proofs.Common.{◌≡◌, ◌⊎◌, inl, inr, ℕ, List, [], length, take, Option, Some, Result, Ok, Err, refl, sym, ◌∙◌, ap, subst, arith, length-take}
use Rattle.std.specs.Prelude.{IfOk, IsTrue}
use Rattle.sqlite_disk.specs.declared.Disk.{Ghosts}
use Rattle.sqlite_wal.specs.declared.log.Log.{Log}
use Rattle.sqlite_wal.specs.declared.page_size.PageSize.{PageSize}
use Rattle.sqlite_wal.specs.Files.{outcomes, seen_image}
use Rattle.sqlite_wal.specs.Format.{be32}
use Rattle.sqlite_wal.specs.Log.{files, frames, image, state}
use Rattle.sqlite_wal.specs.PageSize.{Names, bytes_of, size_in_file}
use Rattle.sqlite_wal.specs.Reads.{AreClean, OnlyReads}
use Rattle.sqlite_wal.specs.Recovery.{AddsNothing, Image, IsIgnored, Recovers, pages_after}
use Rattle.sqlite_wal.specs.State.{Keeps}
use Rattle.sqlite_wal.proofs.StateLemmas.{AddsNothing-fewer, AddsNothing-trans, open_from}
use Rattle.sms_store_files.specs.Writing.{IsWrittenBack, NamesSize}

-- ---- a log

-- without frames it does not matter which log it is
no_frames : (page_size : ℕ) (log db : List ℕ) → pages_after page_size log db 0 ≡ pages_after page_size [] db 0
unfolding pages_after
no_frames page_size log db = refl

-- the size that was found is the one that the files name
pub size_is : (found : Option PageSize) (size : PageSize) (pair : Image) (named : ℕ) → found ≡ Some size
    → ((¬ IsIgnored pair.log) → Names found (be32 pair.log 8)) → (IsIgnored pair.log → Names found (size_in_file pair.db)) → NamesSize pair named
    → bytes_of size ≡ named
size_is found size pair named is log db (inl by_log) = (subst (λ (f : Option PageSize). Names f named) is (subst (Names found) by_log.1 (log by_log.0))).1
size_is found size pair named is log db (inr by_file) = (subst (λ (f : Option PageSize). Names f named) is (subst (Names found) by_file.1 (db by_file.0))).1

pub if_ok : {T E : Type 0} {P Q R : T → Type 0} (result : Result T E) → IfOk result P → IfOk result Q → ((x : T) → P x → Q x → R x) → IfOk result R
if_ok (Ok x) p q f = f x p q
if_ok (Err e) p q f = tt

module _ {D : Type 0} {g : Ghosts D} where
  none_taken : (it : Log D g) → frames it ≡ 0 → length (take it.durable.frames it.index) ≡ 0
  none_taken it empty = omega (arith, empty, length-take it.durable.frames it.index)

  -- a log without frames shows the pages of the database file
  of_file : (it : Log D g) → frames it ≡ 0 → (state it).committed ≡ pages_after (state it).page_size [] (g.seen it.db) 0
  of_file it empty =
      ap (pages_after it.page_size (g.seen it.log) (g.seen it.db)) (none_taken it empty) ∙ no_frames it.page_size (g.seen it.log) (g.seen it.db)

  pub honest : (old mid new : Log D g) (log db : D) → (IsTrue (state mid).is_clean → IsTrue (state old).is_clean) → Keeps (state mid) (state new)
      → (log, db) ≡ files new → AreClean g log db → AreClean g (files old).0 (files old).1
  honest old mid new log db first keeps back clean =
      first (keeps.stays.clean (subst (λ (p : D × D). AreClean g p.0 p.1) back clean))

  pub written_back : (old mid new : Log D g) (log db : D) → (IsTrue (state mid).is_clean → Recovers (state old).page_size (image old) (state mid).committed)
      → (state mid).page_size ≡ (state old).page_size → IsTrue (state new).is_ready → frames new ≡ 0 → Keeps (state mid) (state new) → length (image new).log ≡ 41
      → (log, db) ≡ files new → AreClean g log db → IsWrittenBack (state old).page_size (image old) (seen_image g log db)
  written_back old mid new log db found size ready empty keeps short back clean =
      let clean' : IsTrue (state new).is_clean = subst (λ (p : D × D). AreClean g p.0 p.1) back clean in
      let same : new.page_size ≡ old.page_size = keeps.stays.size ∙ size in
      subst (λ (p : D × D). IsWrittenBack (state old).page_size (image old) (seen_image g p.0 p.1)) (sym back) (record {
        pages = (state mid).committed;
        stood = found (keeps.stays.clean clean');
        alone = ap (λ (n : ℕ). pages_after n [] (g.seen new.db) 0) (sym same)
            ∙ (sym (of_file new empty) ∙ keeps.committed (open_from (state new) ready clean'));
        cut = short;
      })

  pub adds_nothing : (old mid new : Log D g) (log db : D) → AddsNothing (state old).page_size (state old).may_leave (state mid).may_leave
      → (state mid).page_size ≡ (state old).page_size → Keeps (state mid) (state new) → (log, db) ≡ files new → AreClean g log db
      → AddsNothing (state old).page_size (outcomes g (files old).0 (files old).1) (outcomes g log db)
  adds_nothing old mid new log db first size keeps back clean =
      let clean' : IsTrue (state new).is_clean = subst (λ (p : D × D). AreClean g p.0 p.1) back clean in
      let second = subst (λ (n : ℕ). AddsNothing n (state mid).may_leave (state new).may_leave) size keeps.crash in
      let both = AddsNothing-trans (state old).page_size (state old).may_leave (state mid).may_leave (state new).may_leave first second in
      subst (λ (p : D × D). AddsNothing (state old).page_size (outcomes g (files old).0 (files old).1) (outcomes g p.0 p.1)) (sym back)
      (λ left may. let before = both left (clean', may) in (before.0, before.1.1, before.2))

  -- ---- files that are only read

  image_same : (log new_log db new_db : D) → OnlyReads g log new_log → OnlyReads g db new_db → seen_image g new_log new_db ≡ seen_image g log db
  image_same log new_log db new_db l d =
      ap (λ (seen : List ℕ). record { log = seen; db = g.seen new_db }) l.seen ∙ ap (λ (seen : List ℕ). record { log = g.seen log; db = seen }) d.seen

  module _ (log new_log db new_db : D) (l : OnlyReads g log new_log) (d : OnlyReads g db new_db) where
    pub back_of_read : (size named : ℕ) (after : Image) → size ≡ named → IsWrittenBack size (seen_image g new_log new_db) after → IsWrittenBack named (seen_image g log db) after
    back_of_read size named after same w =
        subst (λ (n : ℕ). IsWrittenBack n (seen_image g log db) after) same
        (subst (λ (before : Image). IsWrittenBack size before after) (image_same log new_log db new_db l d) w)

    fewer : (size : ℕ) → AddsNothing size (outcomes g log db) (outcomes g new_log new_db)
    fewer size = AddsNothing-fewer size (outcomes g log db) (outcomes g new_log new_db) (λ left may. (l.crash left.log may.0, d.crash left.db may.1))

    pub nothing_of_read : (size named : ℕ) (after : Image → Type 0) → size ≡ named → AddsNothing size (outcomes g new_log new_db) after → AddsNothing named (outcomes g log db) after
    nothing_of_read size named after same a =
        subst (λ (n : ℕ). AddsNothing n (outcomes g log db) after) same
        (AddsNothing-trans size (outcomes g log db) (outcomes g new_log new_db) after (fewer size) a)
