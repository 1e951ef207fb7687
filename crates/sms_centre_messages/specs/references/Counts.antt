-- Counts of what is under keys: 0 where nothing is.
use Rattle.std.specs.Prelude.{Some, ◌≡◌, ℕ, ◌+◌, ◌-◌, ◌<◌, ◌≤◌, max, length, List, Bool, true, false, if◌then◌else◌, unwrap_or}
use Rattle.std.specs.Map.{lookup}
use Rattle.sms_centre_messages.specs.declared.references.message_ends.MessageEnds.{MessageEnds}
use Rattle.sms_centre_messages.specs.references.Keys.{is_same}

-- the counts, and how many keys more the memory holds
pub record CountsOf : Type 0 where
  pub entries : List (MessageEnds × ℕ)
  pub room : ℕ

-- no key is kept under which nothing is
pub record AreSome (entries : List (MessageEnds × ℕ)) : Type 0 where
  pub is_some : (key : MessageEnds) → ¬ (lookup (is_same key) entries ≡ Some 0)

abbrev pub counted : MessageEnds → CountsOf → ℕ
counted key counts = unwrap_or (lookup (is_same key) counts.entries) 0

abbrev pub one_if : Bool → ℕ
one_if true = 1
one_if false = 0

-- that much is under the key, and under all others what was there
abbrev pub IsSet : MessageEnds → ℕ → CountsOf → CountsOf → Type 0
IsSet key count old new = (other : MessageEnds) → counted other new ≡ (if is_same key other then count else counted other old)

-- one more is under the key, where that is a number of 64 bits
abbrev pub IsAdded : MessageEnds → CountsOf → CountsOf → Type 0
IsAdded key old new = (other : MessageEnds) → counted other old < 18446744073709551615 → counted other new ≡ counted other old + one_if (is_same key other)

-- one less
abbrev pub IsTaken : MessageEnds → CountsOf → CountsOf → Type 0
IsTaken key old new = (other : MessageEnds) → counted other new ≡ counted other old - one_if (is_same key other)

-- ---- memory

-- with that much memory beside its own, so many more keys can be added without taking memory
abbrev pub Suffices : ℕ → ℕ → CountsOf → Type 0
Suffices extra reserve counts = length counts.entries + extra ≤ max (length counts.entries + counts.room) reserve

-- it took the memory in
abbrev pub TookCounts : ℕ → CountsOf → CountsOf → Type 0
TookCounts reserve old new = max (length old.entries + old.room) reserve ≤ length old.entries + new.room

-- it takes at most one place more
abbrev pub UsesOne : CountsOf → CountsOf → Type 0
UsesOne old new = old.room ≤ new.room + 1
