-- What a log says, of which a start takes so many frames: those up to its last whole commit.
use Rattle.std.specs.Prelude.{◌≡◌, ◌≤◌, ◌<◌, ◌==◌, ◌&&◌, ◌||◌, [], ◌∷◌, ℕ, Bool, List, false, if◌then◌else◌, length, nat_lt, not}
use Rattle.sqlite_wal.specs.Format.{IsSigned, be32, count_page}
use Rattle.sqlite_wal.specs.Recovery.{header}
use Rattle.sms_store_files.specs.Frames.{behind}
use Rattle.sms_store_files.specs.declared.frames.OwnFrame.{OwnFrame}
use Rattle.sms_store_files.specs.declared.judging.LogFinding.{LogFinding}
use Rattle.sms_store_files.specs.declared.judging.LogFinding.TheVariants.{Missing, Emptied, Emptying, Unsigned, Whole, Torn, Damaged}

-- A write-back was under way. Whoever empties a log makes its first octet 0 once the database file has all, and only then writes a new
-- head over the rest: the magic number 0x377f0682, the version, and pages of 4096 octets.
pub record IsEmptying (log : List ℕ) : Type 0 where
  pub magic : be32 log 0 ≡ 0x7f0682
  pub version : be32 log 4 ≡ 3007000
  pub size : be32 log 8 ≡ 4096

-- A head without a frame behind it is of no use.
abbrev pub IsShort : List ℕ → Type 0
IsShort log = length log < 56

-- One commit is synced once, so a power loss in it may leave any of its frames without the others. It never leaves frames of two.

-- A frame that ends a commit says how many pages the database has then. What lies behind it was written after that commit was synced.
abbrev pub has_one_behind_an_end : List OwnFrame → Bool
has_one_behind_an_end [] = false
has_one_behind_an_end (frame ∷ later) = (not (frame.pages == 0) && nat_lt 0 (length later)) || has_one_behind_an_end later

-- A commit begins with a frame that counts it (page 0xff000000). One that is not the first behind those that are taken is of a further
-- commit.
abbrev pub has_one_that_begins : ℕ → List OwnFrame → Bool
has_one_that_begins taken [] = false
has_one_that_begins taken (frame ∷ later) = ((frame.page == count_page) && nat_lt taken frame.place) || has_one_that_begins taken later

abbrev pub are_of_two_commits : ℕ → List OwnFrame → Bool
are_of_two_commits taken own = has_one_behind_an_end own || has_one_that_begins taken own

-- what a log with a signed head says, by its own frames behind those that are taken
abbrev pub found_by : ℕ → List OwnFrame → LogFinding
found_by taken own =
    if are_of_two_commits taken own then Damaged
    else (if nat_lt 0 (length own) then Torn else (if taken == 0 then Emptied else Whole))

-- and what one says whose head is not signed
abbrev pub IsUnsignedFinding : List ℕ → LogFinding → Type 0
IsUnsignedFinding log Missing = (¬ IsEmptying log) × IsShort log
IsUnsignedFinding log Emptied = ⊥
IsUnsignedFinding log Emptying = IsEmptying log
IsUnsignedFinding log Unsigned = (¬ IsEmptying log) × (¬ IsShort log)
IsUnsignedFinding log Whole = ⊥
IsUnsignedFinding log Torn = ⊥
IsUnsignedFinding log Damaged = ⊥

-- A log of less than a head is none. What else it says depends on whether its head is signed.
pub record IsFound (log : List ℕ) (taken : ℕ) (finding : LogFinding) : Type 0 where
  pub none : length log < 32 → finding ≡ Missing
  pub signed : 32 ≤ length log → IsSigned (header log) → finding ≡ found_by taken (behind log taken)
  pub unsigned : 32 ≤ length log → ¬ IsSigned (header log) → IsUnsignedFinding log finding
