-- Stored parts, as the index has them: what they say.
use Rattle.std.specs.Prelude.{ℕ, List, [], ◌∷◌, ◌==◌, if◌then◌else◌, Option, Some, None}
use Rattle.sms_handset_rows.specs.declared.inbox.open_group.StoredPart.{StoredPart}

-- which parts they are
abbrev pub numbers_of : List StoredPart → List ℕ
numbers_of [] = []
numbers_of (p ∷ ps) = p.number ∷ numbers_of ps

-- the entry of the part of that number
abbrev pub entry_with : ℕ → List StoredPart → Option ℕ
entry_with n [] = None
entry_with n (p ∷ ps) = if p.number == n then Some p.entry else entry_with n ps
