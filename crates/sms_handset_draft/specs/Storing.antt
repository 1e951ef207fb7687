-- Storing messages and parts in the middle of an event, and what becomes of a group.
use Rattle.std.specs.Prelude.{List, [], ◌∷◌, Option, Some, None, if◌then◌else◌, ◌+◌, ℕ, ◌++◌}
use Rattle.sms_rows.specs.table.Table.{row_at}
use Rattle.sms_concat.specs.declared.content.Content.{Content}
use Rattle.sms_handset_rows.specs.declared.inbox.entry.Entry.{Entry}
use Rattle.sms_handset_rows.specs.inbox.Groups.{alone, joined_entry, all_numbers, part_numbers, joined_content, single_entry, part_entry}
use Rattle.sms_handset_rows.specs.declared.inbox.entry.Group.{Group}
use Rattle.sms_handset_rows.specs.declared.inbox.discarded_group.DiscardedGroup.{DiscardedGroup}
use Rattle.sms_handset_rows.specs.declared.inbox.open_group.StoredPart.{StoredPart}
use Rattle.sms_handset_rows.specs.inbox.Keys.{entry_key}
use Rattle.sms_handset_draft.specs.Draft.{Draft, remove_entry, put_entry, put_counters, put_mark, remove_mark}

-- ---- the entries of a group

-- they leave
abbrev pub drop_all : List Entry → Draft → Draft
drop_all [] d = d
drop_all (e ∷ es) d = drop_all es (remove_entry e.number d)

-- each becomes an entry of its own
abbrev pub free_all : List Entry → Draft → Draft
free_all [] d = d
free_all (e ∷ es) d = free_all es (put_entry (alone e) d)

-- ---- a full group

-- A full group becomes one entry of as many slots, under the number of its first stored part. Where its parts don't join
-- they become single entries.
abbrev pub ended : Group → List Entry → Option Content → Draft → Draft
ended g es None d = free_all es d
ended g es (Some content) d = put_entry (joined_entry g es content) (drop_all es d)

abbrev pub completed : Group → List Entry → Draft → Draft
completed g es d = if all_numbers g.total (part_numbers es) then ended g es (joined_content g es) d else d

-- ---- storing

abbrev pub count_entry : Draft → Draft
count_entry d = put_counters (record d.rows.counters { entry = d.rows.counters.entry + 1 }) d

-- an entry under the next number
abbrev pub keep : Entry → Draft → Draft
keep e d = put_entry e (count_entry d)

-- a message that is no part of an open group
abbrev pub store_single : List ℕ → Draft → Draft
store_single tpdu d = keep (single_entry d.rows.counters.entry tpdu) d

-- a part whose group has those parts so far
abbrev pub store_part : Group → ℕ → List ℕ → List Entry → Draft → Draft
store_part g n tpdu es d =
    let e : Entry = part_entry d.rows.counters.entry g n tpdu in
    completed g (es ++ e ∷ []) (keep e d)

-- A part of a discarded group is noted; the group is forgotten with its last part.
abbrev pub marked : ℕ → DiscardedGroup → Draft → Draft
marked n m d =
    if all_numbers m.group.total (m.seen ++ n ∷ []) then remove_mark m.number d
    else put_mark (record m { seen = m.seen ++ n ∷ [] }) d

-- the entries leave
abbrev pub drop_parts : List StoredPart → Draft → Draft
drop_parts [] d = d
drop_parts (p ∷ ps) d = drop_parts ps (remove_entry p.entry d)

-- each becomes an entry of its own
abbrev pub free_found : Option Entry → Draft → Draft
free_found None d = d
free_found (Some e) d = put_entry (alone e) d

abbrev pub free_parts : List StoredPart → List Entry → Draft → Draft
free_parts [] entries d = d
free_parts (p ∷ ps) entries d = free_parts ps entries (free_found (row_at entry_key p.entry entries) d)
