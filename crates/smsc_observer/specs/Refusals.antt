-- Where refused requests are counted: a row for each of 32 accounts and one for those of none, with a place for each command_status.
use Rattle.std.specs.Prelude.{ℕ, ◌+◌, ◌*◌, ◌/◌, ◌%◌, nat_lt, Option, Some, None, if◌then◌else◌}
use Rattle.smsc_observer.specs.declared.refusals.Refusals.{Refusals}

abbrev pub row_of : Option ℕ → ℕ
row_of None = 32
row_of (Some account) = if nat_lt account 32 then account else 32

-- a greater number than any status has stands in the last place
abbrev pub column_of : ℕ → ℕ
column_of status = if nat_lt status 255 then status else 255

abbrev pub place_of : Option ℕ → ℕ → ℕ
place_of account status = row_of account * 256 + column_of status

-- and what a count of a place is of
abbrev pub account_at : ℕ → Option ℕ
account_at row = if nat_lt row 32 then Some row else None

abbrev pub refusals_at : ℕ → ℕ → Refusals
refusals_at place count = record { account = account_at (place / 256); status = place % 256; count = count }
