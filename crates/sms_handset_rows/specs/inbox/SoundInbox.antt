-- Rows of the inbox from which a handset can recover.
use Rattle.std.specs.Prelude.{◌≡◌, ℕ, List, Ok, Some, ◌≤◌, ◌<◌, [], ◌∷◌, false, None, ◌⊎◌}
use Rattle.std.specs.List.{AllByRecursion}
use Rattle.sms_rows.specs.table.Table.{row_at}
use Rattle.sms_alphabet.specs.declared.concat_key.ConcatKey.{ConcatKey}
use Rattle.sms_tpdu.specs.declared.carrier.Carrier.TheVariants.{InData}
use Rattle.sms_tpdu.specs.declared.deliver.Deliver.{Deliver as DeliverOf}
use Rattle.sms_tpdu.specs.declared.down.Down.TheVariants.{Deliver, StatusReport}
use Rattle.sms_tpdu.specs.TpduReading.{down_at}
use Rattle.sms_tpdu.specs.declared.status_report.StatusReport.{StatusReport as StatusReportOf}
use Rattle.sms_handset_rows.specs.declared.inbox.entry.Group.{Group}
use Rattle.sms_handset_rows.specs.inbox.Groups.{group_of, key_of, is_among, all_numbers, members, part_numbers, mark_of}
use Rattle.sms_handset_rows.specs.declared.inbox.entry.Message.{Message}
use Rattle.sms_handset_rows.specs.declared.inbox.entry.Message.TheVariants.{Single, Part, Joined}
use Rattle.sms_handset_rows.specs.declared.inbox.entry.Entry.{Entry}
use Rattle.sms_handset_rows.specs.declared.inbox.discarded_group.DiscardedGroup.{DiscardedGroup}
use Rattle.sms_handset_rows.specs.declared.inbox.last_accepted.LastAccepted.{LastAccepted}
use Rattle.sms_handset_rows.specs.inbox.Keys.{entry_key}

-- ---- the inbox

-- the octets are a DELIVER, of that part where it is one
abbrev pub IsDelivered : List ℕ → Type 0
IsDelivered tpdu = (m : DeliverOf) × (down_at InData tpdu ≡ Ok (Deliver m))

abbrev pub IsPartOf : Group → ℕ → List ℕ → Type 0
IsPartOf g n tpdu =
    (m : DeliverOf) × (key : ConcatKey)
    × ((down_at InData tpdu ≡ Ok (Deliver m)) × (key_of m ≡ Some key) × (group_of m.originating_address key ≡ g) × (key.number ≡ n))

abbrev pub IsMessage : ℕ → Message → Type 0
IsMessage slots (Single tpdu) = (slots ≡ 1) × IsDelivered tpdu
IsMessage slots (Part g n tpdu) = (slots ≡ 1) × IsPartOf g n tpdu
IsMessage slots (Joined source content) = 1 ≤ slots

-- the number was given
abbrev pub IsGiven : ℕ → ℕ → Type 0
IsGiven next n = (0 < n) × (n < next)

abbrev pub AreEntries : ℕ → List Entry → Type 0
AreEntries next entries = AllByRecursion (λ (e : Entry). IsGiven next e.number × IsMessage e.slots e.message) entries

-- no number is there twice
abbrev pub Differ : List ℕ → Type 0
Differ [] = Unit {0}
Differ (n ∷ ns) = (is_among n ns ≡ false) × Differ ns

-- An open group has each of its numbers once, not all of them, and is not discarded.
pub record IsOpenGroup (entries : List Entry) (marks : List DiscardedGroup) (g : Group) : Type 0 where
  pub once : Differ (part_numbers (members g entries))
  pub open_yet : all_numbers g.total (part_numbers (members g entries)) ≡ false
  pub not_discarded : mark_of g marks ≡ None

abbrev pub IsOfOpenGroup : List Entry → List DiscardedGroup → Message → Type 0
IsOfOpenGroup entries marks (Single tpdu) = Unit {0}
IsOfOpenGroup entries marks (Part g n tpdu) = IsOpenGroup entries marks g
IsOfOpenGroup entries marks (Joined source content) = Unit {0}

abbrev pub AreOpenGroups : List Entry → List DiscardedGroup → Type 0
AreOpenGroups entries marks = AllByRecursion (λ (e : Entry). IsOfOpenGroup entries marks e.message) entries

-- ---- what was accepted last

abbrev pub IsLast : LastAccepted → Type 0
IsLast l = IsDelivered l.tpdu ⊎ ((r : StatusReportOf) × (down_at InData l.tpdu ≡ Ok (StatusReport r)))

-- the number is no entry's of the inbox
abbrev pub IsApart : ℕ → List Entry → Type 0
IsApart n entries = row_at entry_key n entries ≡ None

-- ---- discarded groups

-- The numbers seen of a group differ and are not all of them; no entry has the mark's number, and no other mark its group.
abbrev pub AreMarks : ℕ → List Entry → List DiscardedGroup → Type 0
AreMarks next entries [] = Unit {0}
AreMarks next entries (m ∷ ms) =
    IsGiven next m.number × IsApart m.number entries × Differ m.seen × (all_numbers m.group.total m.seen ≡ false) × (mark_of m.group ms ≡ None)
    × AreMarks next entries ms
