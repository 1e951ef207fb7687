-- A change of the open groups that an event's changes of the rows make.
use Rattle.std.specs.Prelude.{◌<◌, ◌≡◌, ℕ}
use Rattle.std.specs.List.{AllByRecursion}
use Rattle.sms_rows.specs.table.Table.{Rises}
use Rattle.sms_handset_rows.specs.declared.inbox.entry.Entry.{Entry}
use Rattle.sms_handset_rows.specs.inbox.OpenGroups.{open_at, regrouped}
use Rattle.sms_handset_rows.specs.declared.inbox.open_group.Regrouping.{Regrouping}
use Rattle.sms_handset_rows.specs.inbox.Keys.{entry_key}
use Rattle.sms_handset_draft.specs.declared.rows.Rows.{Rows}

-- each entry has a number that was given
abbrev pub Numbered : Rows → Type 0
Numbered rows = AllByRecursion (λ (e : Entry). e.number < rows.counters.entry) rows.entries

-- The change leads from the open groups of these rows to those of the others.
abbrev pub IsRegrouped : Regrouping → Rows → Rows → Type 0
IsRegrouped change before after =
    ((n : ℕ) → open_at n after.entries ≡ regrouped change n (open_at n before.entries)) × Numbered after

-- The regrouped entries, where those before are in order under numbers that were given.
abbrev pub Regroups : Regrouping → Rows → Rows → Type 0
Regroups change before after = Rises entry_key before.entries → Numbered before → IsRegrouped change before after
