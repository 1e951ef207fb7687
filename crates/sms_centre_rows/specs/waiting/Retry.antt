-- When what failed is tried again (own profile: 3GPP TS 23.040 leaves it to the service centre).
use Rattle.std.specs.Prelude.{ℕ, ◌+◌, ◌==◌, nat_le, min, if◌then◌else◌}

-- seconds from the attempt of that number, counted from 1, to the next
abbrev pub retry_delay : ℕ → ℕ
retry_delay attempts =
    if nat_le attempts 1 then 60
    else (if attempts == 2 then 300
    else (if attempts == 3 then 900
    else 3600))

-- never past the last moment
abbrev pub retry_after : ℕ → ℕ → ℕ
retry_after attempts now = min (now + retry_delay attempts) 4102444799
