-- What the rows of the inbox say of the world: what was accepted last, and the present group of each key.
use Rattle.std.specs.Prelude.{◌≡◌, ◌↔◌, ℕ, ◌<◌, List, Option, Some, None, length}
use Rattle.sms_base.specs.Among.{Among}
use Rattle.sms_rows.specs.table.Table.{row_at}
use Rattle.sms_handset_rows.specs.declared.inbox.entry.Entry.{Entry}
use Rattle.sms_handset_rows.specs.declared.inbox.entry.Group.{Group}
use Rattle.sms_handset_rows.specs.declared.inbox.last_accepted.LastAccepted.{LastAccepted}
use Rattle.sms_handset_rows.specs.declared.inbox.discarded_group.DiscardedGroup.{DiscardedGroup}
use Rattle.sms_handset_rows.specs.inbox.Groups.{is_among, mark_of, members, part_numbers, entry_part, part_with}
use Rattle.sms_handset_rows.specs.inbox.Keys.{last_key}
use Rattle.sms_tpdu.specs.MoreMessages.{compared}
use Rattle.sms_world_model.specs.World.{Accepted, Joined, IsLast}
use Rattle.sms_world_model.specs.Place.{Key}
use Rattle.sms_world_model.specs.Groups.{Groups, groups_of, carried_by, numbers, is_among as is_in}

-- octets as they are compared
abbrev pub octets_at : Option LastAccepted → Option (List ℕ)
octets_at None = None
octets_at (Some l) = Some (compared l.tpdu)

-- the row of a reference has the octets that were accepted last under it
abbrev pub RefinesLast : List ℕ → List LastAccepted → List Accepted → Type 0
RefinesLast handset last accepted =
    (r : ℕ) (octets : List ℕ) →
    (octets_at (row_at last_key r last) ≡ Some octets) ↔ IsLast (record { handset = handset; reference = r; tpdu = octets }) accepted

-- the numbers that the open or discarded group has
abbrev pub numbers_in_group : List Entry → Option DiscardedGroup → List ℕ
numbers_in_group parts None = part_numbers parts
numbers_in_group parts (Some m) = m.seen

-- a group as the world names it
abbrev pub key_seen : Group → Key
key_seen g = record { source = g.source; reference = g.reference; total = g.total }

-- the world's groups of that group
abbrev pub groups_at : List ℕ → Group → List Accepted → Groups
groups_at handset g accepted = groups_of handset (key_seen g) accepted

-- a key's open or discarded group is the present group of the world
pub record Matches (open_parts : List Entry) (mark : Option DiscardedGroup) (g : Groups) : Type 0 where
  pub parts : (n : ℕ) → is_among n (numbers_in_group open_parts mark) ≡ is_in n (numbers g.present)
  pub texts : mark ≡ None → (n : ℕ) → entry_part (part_with n open_parts) ≡ carried_by n g.present

-- Each key's group is the world's present one, and what was joined are groups that ended.
pub record RefinesGroups (handset : List ℕ) (entries : List Entry) (marks : List DiscardedGroup) (accepted : List Accepted)
    (joined : List Joined) : Type 0 where
  pub keys : (k : Group) → Matches (members k entries) (mark_of k marks) (groups_at handset k accepted)
  pub places : (j : Joined) → Among j joined → j.handset ≡ handset → j.place < length (groups_of handset j.key accepted).ended
