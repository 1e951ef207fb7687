-- What a reader of a column reads: each value that a row has there. It refuses one for want of memory alone.
use Rattle.std.specs.Prelude.{◌≡◌, ℕ, ◌<◌, length}
use Rattle.sqlite.specs.Order.{Row}
use Rattle.sqlite.specs.declared.types.Value.{Value}
use Rattle.sqlite.specs.declared.error.Error.{Error}
use Rattle.sqlite.specs.declared.error.Error.TheVariants.{SqliteFailure}
use Rattle.sqlite.specs.declared.error.ErrorCode.TheVariants.{OutOfMemory}
use Rattle.sqlite_value.specs.Order.{column}

-- the error says that no memory was left
abbrev pub LacksMemory : Error → Type 0
LacksMemory e = e ≡ SqliteFailure OutOfMemory

-- the row has a column at that place, with that value
pub record HasAt (row : Row) (at : ℕ) (value : Value) : Type 0 where
  pub inside : at < length row
  pub is : column row at ≡ value
