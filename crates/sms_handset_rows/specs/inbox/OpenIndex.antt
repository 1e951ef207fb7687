-- The index of open groups: each under the number of its first stored part.
use Rattle.std.specs.Prelude.{ℕ, nat_eq, Option, ◌≡◌, List, [], ◌∷◌, if◌then◌else◌, Some, None}
use Rattle.std.specs.Map.{lookup}
use Rattle.sms_handset_rows.specs.declared.inbox.open_group.OpenGroup.{OpenGroup}
use Rattle.sms_handset_rows.specs.declared.inbox.entry.Entry.{Entry}
use Rattle.sms_handset_rows.specs.inbox.OpenGroups.{open_at}
use Rattle.sms_handset_rows.specs.declared.inbox.entry.Group.{Group}
use Rattle.sms_handset_rows.specs.inbox.Groups.{is_same_group}
use Rattle.sms_handset_rows.specs.declared.inbox.open_group.StoredPart.{StoredPart}
use Rattle.sms_handset_rows.specs.declared.inbox.open_group.Regrouping.{Regrouping}
use Rattle.sms_handset_rows.specs.declared.inbox.open_group.Regrouping.TheVariants.{Unchanged, Opened, Grown, Closed}

-- the groups by the entry numbers of their first stored parts, and how many groups the memory holds
pub record OpenIndex : Type 0 where
  pub groups : List (ℕ × OpenGroup)
  pub capacity : ℕ

-- what the index has under a number
abbrev pub under : OpenIndex → ℕ → Option OpenGroup
under index n = lookup (nat_eq n) index.groups

-- it has each open group of the entries under the number of its first stored part, and nothing else
abbrev pub Indexes : OpenIndex → List Entry → Type 0
Indexes index entries = (n : ℕ) → under index n ≡ open_at n entries

-- ---- a group's parts

abbrev pub find_open : Group → List (ℕ × OpenGroup) → Option OpenGroup
find_open g [] = None
find_open g (o ∷ os) = if is_same_group o.1.group g then Some o.1 else find_open g os

abbrev pub parts_of : Option OpenGroup → List StoredPart
parts_of None = []
parts_of (Some o) = o.parts

-- ---- memory

-- how many groups more there may be after the change
abbrev pub opening : Regrouping → ℕ
opening Unchanged = 0
opening (Opened first group) = 1
opening (Grown first parts part) = 0
opening (Closed first) = 0

-- the entry of the first part, or that one where there is none
abbrev pub first_entry_of : List StoredPart → ℕ → ℕ
first_entry_of [] n = n
first_entry_of (p ∷ ps) n = p.entry
