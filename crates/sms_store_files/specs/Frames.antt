-- The frames of a log that lie behind its last whole commit (SQLite's file format, 4.1 and 4.2).
use Rattle.std.specs.Prelude.{◌+◌, ◌-◌, ◌/◌, ◌==◌, ◌&&◌, ◌++◌, [], ◌∷◌, ℕ, zero, suc, Bool, List, if◌then◌else◌, length, nat_le, not}
use Rattle.sqlite_wal.specs.Format.{be32}
use Rattle.sqlite_wal.specs.Recovery.{frame_at}
use Rattle.sms_store_files.specs.declared.frames.OwnFrame.{OwnFrame}

-- where frame i begins, from 0: the log's head says how long a page is
abbrev pub start_of : List ℕ → ℕ → ℕ
start_of log i = frame_at (be32 log 8) i

-- the log is long enough for what says of frame i which page it has, and whose it is
abbrev pub is_there : List ℕ → ℕ → Bool
is_there log i = nat_le (start_of log i + 16) (length log)

-- frame i has the two salts of the log, which are others each time that the log is begun anew
abbrev pub has_salts : List ℕ → ℕ → Bool
has_salts log i = (be32 log (start_of log i + 8) == be32 log 16) && (be32 log (start_of log i + 12) == be32 log 20)

-- A frame is the log's own if it has its salts and is of a page. It need not be whole, nor have its right sum.
abbrev pub is_own : List ℕ → ℕ → Bool
is_own log i = is_there log i && (has_salts log i && not (be32 log (start_of log i) == 0))

-- which page it has, and how many pages the database has if it ends a commit
abbrev pub own_frame : List ℕ → ℕ → OwnFrame
own_frame log i = record { place = i; page = be32 log (start_of log i); pages = be32 log (start_of log i + 4) }

-- the own ones among n frames from the one at `from` on
unfoldable pub own_frames : List ℕ → ℕ → ℕ → List OwnFrame
own_frames log from zero = []
own_frames log from (suc n) = own_frames log from n ++ (if is_own log (from + n) then own_frame log (from + n) ∷ [] else [])

-- so many frames begin in the log at most, the last of which may be cut
abbrev pub frame_count : List ℕ → ℕ
frame_count log = (length log - 32) / (24 + be32 log 8) + 1

-- the own frames behind the first `taken`
abbrev pub behind : List ℕ → ℕ → List OwnFrame
behind log taken = own_frames log taken (frame_count log - taken)
