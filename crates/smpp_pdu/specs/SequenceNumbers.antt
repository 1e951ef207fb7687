-- The sequence numbers of a session's requests.
use Rattle.std.specs.Prelude.{ℕ, ◌+◌, nat_lt, if◌then◌else◌}

-- They run from 1 to 7FFFFFFF hexadecimal and around (SMPP v3.4 3.2); 0 stands before the first.
abbrev pub number_after : ℕ → ℕ
number_after number = if nat_lt number 0x7FFFFFFF then number + 1 else 1
