-- The log of a copy that was made while somebody wrote the log (SQLite's file format, 4.1 and 4.2).
use Rattle.std.specs.Prelude.{◌≡◌, ◌≢◌, ◌≤◌, ℕ, List, length, take}
use Rattle.sqlite_wal.specs.Format.{be32}
use Rattle.sms_store_files.specs.Frames.{start_of}
use Rattle.sms_store_files.specs.Judging.{IsFound}
use Rattle.sms_store_files.specs.Reading.{IsTaken}
use Rattle.sms_store_files.specs.declared.judging.LogFinding.{LogFinding}
use Rattle.sms_store_files.specs.declared.judging.LogFinding.TheVariants.{Damaged as DamagedLog}
use Rattle.smsc_operation.specs.declared.copied_log.HoleFinding.{HoleFinding}
use Rattle.smsc_operation.specs.declared.copied_log.HoleFinding.TheVariants.{OtherLog, Closed, Damaged}

-- Who reads a log goes through it from the front on, and so does who writes it. The reader can pass a frame before it is written, and come to
-- later ones once they are. That is a hole, which the log itself never had: whoever reads it again finds the frame. Damage stays.

-- Two readings are of one log: its head has other salts each time that the log is begun anew.
pub record IsOneLog (first again : List ℕ) : Type 0 where
  pub first_head : 32 ≤ length first
  pub again_head : 32 ≤ length again
  pub page : be32 again 8 ≡ be32 first 8
  pub salt : be32 again 16 ≡ be32 first 16
  pub other_salt : be32 again 20 ≡ be32 first 20

-- A start would take so many frames of the second reading. Had it taken as many of the first one, it would have found this.
pub record IsJudgedBy (first again : List ℕ) (taken : ℕ) (finding : LogFinding) : Type 0 where
  pub one : IsOneLog first again
  pub takes : IsTaken again taken
  pub found : IsFound first taken finding

-- the log without what lies behind its first `taken` frames
abbrev pub cut_behind : List ℕ → ℕ → List ℕ
cut_behind log taken = take (start_of log taken) log

-- What the first reading has behind those frames is no more than one commit, which nobody confirmed. So they have all that was confirmed
-- before it, and the copy keeps them alone.
pub record IsClosed (first again kept : List ℕ) : Type 0 where
  pub taken : ℕ
  pub finding : LogFinding
  pub judged : IsJudgedBy first again taken finding
  pub sound : finding ≢ DamagedLog
  pub cut : kept ≡ cut_behind again taken

-- It has two commits or more behind them, and so it had before.
pub record IsDamagedStill (first again : List ℕ) : Type 0 where
  pub taken : ℕ
  pub judged : IsJudgedBy first again taken DamagedLog

-- what a second reading says of a hole in the first one, and what is left of it
abbrev pub IsHoleFinding : List ℕ → List ℕ → List ℕ → HoleFinding → Type 0
IsHoleFinding first again left OtherLog = (¬ IsOneLog first again) × (left ≡ again)
IsHoleFinding first again left Closed = IsClosed first again left
IsHoleFinding first again left Damaged = IsDamagedStill first again × (left ≡ again)
