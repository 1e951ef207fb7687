-- Slots: each entry takes some.
use Rattle.std.specs.Prelude.{ℕ, ◌+◌, List, [], ◌∷◌, Option, Some, None}
use Rattle.sms_handset_rows.specs.declared.inbox.entry.Entry.{Entry}

abbrev pub slots_taken : List Entry → ℕ
slots_taken [] = 0
slots_taken (e ∷ es) = e.slots + slots_taken es

-- how many slots the entry of that number takes, if there is one
abbrev pub slots_of : Option Entry → ℕ
slots_of None = 0
slots_of (Some e) = e.slots
