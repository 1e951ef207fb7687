-- The mark, written, and the log, written back.
use Rattle.std.specs.Prelude.{◌≡◌, ◌⊎◌, ◌≤◌, ◌<◌, ◌+◌, ℕ, List, [], length, slice_index}
use Rattle.sqlite_wal.specs.Format.{be32}
use Rattle.sqlite_wal.specs.PageSize.{size_in_file}
use Rattle.sqlite_wal.specs.Recovery.{Image, IsIgnored, IsLogFor, Pages, Recovers, pages_after}
use Rattle.sms_store_files.specs.Marking.{number_of}
use Rattle.sms_store_files.specs.Reading.{application}
use Rattle.sms_store_files.specs.declared.marking.Mark.{Mark}

-- The file has the mark and names the application, and is else as it was.
pub record IsMarked (mark : Mark) (before after : List ℕ) : Type 0 where
  pub number : be32 after 60 ≡ number_of mark
  pub names : be32 after 68 ≡ application
  pub others : (i : ℕ) → i < length before → (i < 60) ⊎ (((64 ≤ i) × (i < 68)) ⊎ (72 ≤ i)) → slice_index after i ≡ slice_index before i

-- The size of a page that the files name: the log's head does if it counts, and else the database file's (file format, 1.3.2 and 4.1).
abbrev pub NamesSize : Image → ℕ → Type 0
NamesSize image size = IsLogFor size image.log ⊎ (IsIgnored image.log × (size_in_file image.db ≡ size))

-- The database file alone has the pages for which both files stood. The log has its head and nine octets, so it counts for nothing.
pub record IsWrittenBack (page_size : ℕ) (before after : Image) : Type 0 where
  pub pages : Pages
  pub stood : Recovers page_size before pages
  pub alone : pages_after page_size [] after.db 0 ≡ pages
  pub cut : length after.log ≡ 41
