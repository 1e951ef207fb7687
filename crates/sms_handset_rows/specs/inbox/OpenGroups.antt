-- Open groups by their first stored parts, and what becomes of them.
use Rattle.std.specs.Prelude.{List, [], ◌∷◌, ◌++◌, ℕ, ◌==◌, if◌then◌else◌, Option, Some, None, ◌≡◌}
use Rattle.std.specs.List.{AllByRecursion}
use Rattle.sms_rows.specs.table.Table.{row_at}
use Rattle.sms_handset_rows.specs.declared.inbox.entry.Entry.{Entry}
use Rattle.sms_handset_rows.specs.declared.inbox.open_group.StoredPart.{StoredPart}
use Rattle.sms_handset_rows.specs.inbox.Groups.{part_number, first_number, members, all_numbers, part_numbers}
use Rattle.sms_handset_rows.specs.declared.inbox.entry.Group.{Group}
use Rattle.sms_handset_rows.specs.declared.inbox.open_group.OpenGroup.{OpenGroup}
use Rattle.sms_handset_rows.specs.declared.inbox.entry.Message.{Message}
use Rattle.sms_handset_rows.specs.declared.inbox.entry.Message.TheVariants.{Single, Part, Joined}
use Rattle.sms_handset_rows.specs.inbox.Keys.{entry_key}
use Rattle.sms_handset_rows.specs.declared.inbox.open_group.Regrouping.{Regrouping}
use Rattle.sms_handset_rows.specs.declared.inbox.open_group.Regrouping.TheVariants.{Unchanged, Opened, Grown, Closed}
use Rattle.sms_concat.specs.declared.content.Part.{Part as PartOf}
use Rattle.sms_handset_rows.specs.inbox.TakenParts.{carried_by, taken_of, with_taken}

-- ---- what is under the number of a first stored part

-- the number of a part's entry, and which part it is
abbrev pub stored_part : Entry → StoredPart
stored_part e = record { entry = e.number; number = part_number e.message }

abbrev pub stored_parts : List Entry → List StoredPart
stored_parts [] = []
stored_parts (e ∷ es) = stored_part e ∷ stored_parts es

abbrev pub open_group : Group → List Entry → OpenGroup
open_group g es = record { group = g; parts = stored_parts es; joined = taken_of g es }

abbrev pub open_first : ℕ → Group → List Entry → Option OpenGroup
open_first n g es = if first_number es == n then Some (open_group g es) else None

abbrev pub open_under : ℕ → Message → List Entry → Option OpenGroup
open_under n (Single tpdu) entries = None
open_under n (Part group number tpdu) entries = open_first n group (members group entries)
open_under n (Joined source content) entries = None

abbrev pub open_of : ℕ → Option Entry → List Entry → Option OpenGroup
open_of n None entries = None
open_of n (Some e) entries = open_under n e.message entries

-- the open group whose first stored part is the entry of that number, if there is one
abbrev pub open_at : ℕ → List Entry → Option OpenGroup
open_at n entries = open_of n (row_at entry_key n entries) entries

-- ---- what an event changes of it

-- the group with these parts, one of which is new
abbrev pub grown : List StoredPart → Option PartOf → Option OpenGroup → Option OpenGroup
grown parts part None = None
grown parts part (Some o) = Some (record o { parts = parts; joined = with_taken o.joined part })

abbrev pub regrouped : Regrouping → ℕ → Option OpenGroup → Option OpenGroup
regrouped Unchanged n there = there
regrouped (Opened first group) n there = if first == n then Some group else there
regrouped (Grown first parts part) n there = if first == n then grown parts part there else there
regrouped (Closed first) n there = if first == n then None else there

-- a group that is not full, with one more part: it opens with its first
abbrev pub one_more : Group → List Entry → Entry → Regrouping
one_more g [] e = Opened e.number (open_group g (e ∷ []))
one_more g (x ∷ xs) e = Grown x.number (stored_parts (x ∷ xs ++ e ∷ [])) (carried_by e)

-- What becomes of a group that had these parts with one more: it ends once it is full.
abbrev pub grouped : Group → List Entry → Entry → Regrouping
grouped g es e =
    if all_numbers g.total (part_numbers (es ++ e ∷ [])) then Closed (first_number (es ++ e ∷ [])) else one_more g es e

-- ---- parts by their entries

abbrev pub found_then : Option Entry → List Entry → List Entry
found_then None es = es
found_then (Some e) es = e ∷ es

-- the entries of the parts
abbrev pub entries_of : List StoredPart → List Entry → List Entry
entries_of [] entries = []
entries_of (p ∷ ps) entries = found_then (row_at entry_key p.entry entries) (entries_of ps entries)

abbrev pub IsFoundAs : StoredPart → Option Entry → Type 0
IsFoundAs p None = ⊥
IsFoundAs p (Some e) = stored_part e ≡ p

-- each part is the entry of its number
abbrev pub AreFound : List StoredPart → List Entry → Type 0
AreFound parts entries = AllByRecursion (λ (p : StoredPart). IsFoundAs p (row_at entry_key p.entry entries)) parts

-- what the group's joiner has taken, if there is one, is these entries
abbrev pub HasTaken : Option OpenGroup → List Entry → Type 0
HasTaken None es = Unit {0}
HasTaken (Some o) es = o.joined ≡ taken_of o.group es
