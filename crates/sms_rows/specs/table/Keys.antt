-- The keys of rows, as numbers.
use Rattle.std.specs.Prelude.{ℕ, ◌+◌, ◌*◌}
pub use Rattle.sms_base.specs.DigitsKey.{digits_key}

-- a key of two parts, the second below 256: by the first part, then by the second
abbrev pub pair_key : ℕ → ℕ → ℕ
pair_key first second = 256 * first + second
