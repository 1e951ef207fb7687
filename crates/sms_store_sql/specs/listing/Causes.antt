-- What the errors of statements are to a keep.
use Rattle.std.specs.Prelude.{◌≢◌}
use Rattle.sqlite.specs.declared.error.Error.{Error}
use Rattle.sqlite.specs.declared.error.Error.TheVariants.{SqliteFailure, QueryReturnedNoRows, InvalidColumnIndex, InvalidColumnType, IntegralValueOutOfRange}
use Rattle.sqlite.specs.declared.error.Error.TheVariants.{Utf8Error}
use Rattle.sqlite.specs.declared.error.ErrorCode.TheVariants as code
use Rattle.sms_rows.specs.declared.keep.error.KeepError.{KeepError}
use Rattle.sms_rows.specs.declared.keep.error.KeepError.TheVariants.{Disk, Full, NoMemory, Interrupted, Closed, NotThisStore, OldVersion}

-- of a statement that writes
abbrev pub write_cause : Error → KeepError
write_cause (SqliteFailure code.OutOfMemory) = NoMemory
write_cause (SqliteFailure code.TooBig) = NoMemory
write_cause (SqliteFailure code.OperationInterrupted) = Interrupted
write_cause (SqliteFailure code.Closed) = Closed
write_cause (SqliteFailure code.DiskFull) = Full
write_cause _ = Disk

-- of one that reads: columns not those of a row, or no row where there is always one, mean that it is no such store
abbrev pub load_cause : Error → KeepError
load_cause QueryReturnedNoRows = NotThisStore
load_cause (InvalidColumnIndex at) = NotThisStore
load_cause (InvalidColumnType at kind) = NotThisStore
load_cause (IntegralValueOutOfRange at) = NotThisStore
load_cause (Utf8Error at) = NotThisStore
load_cause error = write_cause error

-- the error says nothing about a store
abbrev pub IsOfNoStore : KeepError → Type 0
IsOfNoStore e = (e ≢ OldVersion) × (e ≢ NotThisStore)

-- the error says nothing about the rows that a store has
abbrev pub IsOfNoRow : Error → Type 0
IsOfNoRow e = load_cause e ≢ NotThisStore
