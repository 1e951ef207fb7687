-- The mark that a store's file has: SQLite's user version (file format, 1.3.12), four octets, the highest first.
use Rattle.std.specs.Prelude.{◌+◌, ◌*◌, ◌-◌, ◌/◌, ◌%◌, ◌==◌, ℕ, nat_lt, if◌then◌else◌}
use Rattle.sms_store_files.specs.declared.marking.Mark.{Mark}
use Rattle.sms_store_files.specs.declared.marking.Mark.TheVariants.{Unmarked, Closed, Open}

-- 0 and 1 say nothing. An even number from 2 on says that no run has the file open, an odd one that a run has it open or ended without
-- closing it. Half of what lies above 2 is the step.
abbrev pub mark_of : ℕ → Mark
mark_of n = if nat_lt n 2 then Unmarked else (if n % 2 == 0 then Closed ((n - 2) / 2) else Open ((n - 2) / 2))

-- and the number of a mark
abbrev pub number_of : Mark → ℕ
number_of Unmarked = 0
number_of (Closed step) = 2 + step * 2
number_of (Open step) = 3 + step * 2
