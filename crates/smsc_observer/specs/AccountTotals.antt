-- What the sessions of an account did, as their counts say one after the other.
use Rattle.std.specs.Prelude.{ℕ, ◌-◌, nat_le, if◌then◌else◌}

-- how much more a seat's count has become: a count that is less than before is another connection's, which began at 0
abbrev pub gained : ℕ → ℕ → ℕ
gained before now = if nat_le before now then now - before else now
