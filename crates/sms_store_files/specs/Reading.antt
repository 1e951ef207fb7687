-- The two files of a store, read under their lock.
use Rattle.std.specs.Prelude.{◌≡◌, ◌≤◌, ◌==◌, ◌&&◌, ℕ, List, if◌then◌else◌, length, nat_le}
use Rattle.sqlite_wal.specs.Format.{be32}
use Rattle.sqlite_wal.specs.PageSize.{IsPageSize}
use Rattle.sqlite_wal.specs.Recovery.{Replays}
use Rattle.sms_store_files.specs.Judging.{IsFound}
use Rattle.sms_store_files.specs.Marking.{mark_of}
use Rattle.sms_store_files.specs.declared.judging.LogJudgement.{LogJudgement}
use Rattle.sms_store_files.specs.declared.marking.Mark.{Mark}
use Rattle.sms_store_files.specs.declared.marking.Mark.TheVariants.{Unmarked}

-- the application that a marked file names (file format, 1.3.15): SMSC in ASCII
abbrev pub application : ℕ
application = 0x534d5343

-- A file that does not name the application has no mark, whatever its user version is.
abbrev pub mark_in : List ℕ → Mark
mark_in file = if nat_le 100 (length file) && (be32 file 68 == application) then mark_of (be32 file 60) else Unmarked

-- A start takes the frames up to the last whole commit that counts, and none where the log's head names no size of a page.
pub record IsTaken (log : List ℕ) (taken : ℕ) : Type 0 where
  pub frames : IsPageSize (be32 log 8) → Replays (be32 log 8) log taken
  pub none : ¬ IsPageSize (be32 log 8) → taken ≡ 0

-- what a log says, by the frames that a start takes of it
abbrev pub IsFoundIn : List ℕ → LogJudgement → Type 0
IsFoundIn log judgement = (32 ≤ length log → IsTaken log judgement.taken) × IsFound log judgement.taken judgement.finding
