-- How long a message is kept (3GPP TS 23.040 9.2.3.12.1), in seconds and moments.
use Rattle.std.specs.Prelude.{ℕ, ◌+◌, ◌-◌, ◌*◌, min, nat_lt, if◌then◌else◌}
use Rattle.sms_tpdu.specs.declared.validity_period.ValidityPeriod.{ValidityPeriod}
use Rattle.sms_tpdu.specs.declared.validity_period.ValidityPeriod.TheVariants.{NotPresent, Relative, Absolute}

-- The table of relative periods. It has steps of 5 minutes up to 12 hours, of 30 minutes up to 24 hours. It has steps
-- of a day up to 30 days, and of a week up to 63 weeks.
abbrev pub relative_seconds : ℕ → ℕ
relative_seconds period =
    if nat_lt period 144 then (period + 1) * 300
    else (if nat_lt period 168 then 43200 + (period - 143) * 1800
    else (if nat_lt period 197 then (period - 166) * 86400
    else (period - 192) * 604800))

-- the last second of 2099 ends all counting
abbrev pub later : ℕ → ℕ → ℕ
later moment seconds = min (moment + seconds) 4102444799

-- Until when a message of now is kept: two days where no period is present, and never longer than 63 weeks. An
-- absolute period that is over is over.
abbrev pub valid_until : ValidityPeriod → ℕ → ℕ
valid_until NotPresent now = later now 172800
valid_until (Relative period) now = later now (relative_seconds period)
valid_until (Absolute moment) now = min moment (later now 38102400)
