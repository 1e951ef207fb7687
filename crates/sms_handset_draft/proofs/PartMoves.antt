-- Moves of stored parts are moves of their entries.
use Rattle.std.proofs.Common.{◌≡◌, List, [], ◌∷◌, refl, ◌∙◌, ap, ◌++◌, Option, Some, None}
use Rattle.sms_rows.specs.table.Table.{row_at}
use Rattle.sms_handset_rows.specs.declared.inbox.entry.Entry.{Entry}
use Rattle.sms_handset_rows.specs.inbox.OpenGroups.{entries_of, found_then, stored_parts}
use Rattle.sms_handset_rows.specs.declared.inbox.open_group.StoredPart.{StoredPart}
use Rattle.sms_handset_rows.specs.inbox.Keys.{entry_key}
use Rattle.sms_handset_rows.specs.inbox.Groups.{alone}
use Rattle.sms_handset_draft.specs.Draft.{Draft, remove_entry, put_entry}
use Rattle.sms_handset_draft.specs.Storing.{drop_all, drop_parts, free_all, free_found, free_parts}

-- ---- moves over parts

pub drops : (es : List Entry) (d : Draft) → drop_parts (stored_parts es) d ≡ drop_all es d
drops [] d = refl
drops (e ∷ es) d = drops es (remove_entry e.number d)

pub drop_more : (xs ys : List Entry) (d : Draft) → drop_all ys (drop_all xs d) ≡ drop_all (xs ++ ys) d
drop_more [] ys d = refl
drop_more (x ∷ xs) ys d = drop_more xs ys (remove_entry x.number d)

free_next : (o : Option Entry) (rest : List Entry) (d : Draft) → free_all rest (free_found o d) ≡ free_all (found_then o rest) d
free_next None rest d = refl
free_next (Some e) rest d = refl

frees_all : (ps : List StoredPart) (es : List Entry) (d : Draft) → free_parts ps es d ≡ free_all (entries_of ps es) d
frees_all [] es d = refl
frees_all (p ∷ ps) es d =
    frees_all ps es (free_found (row_at entry_key p.entry es) d) ∙ free_next (row_at entry_key p.entry es) (entries_of ps es) d

free_more : (xs ys : List Entry) (d : Draft) → free_all ys (free_all xs d) ≡ free_all (xs ++ ys) d
free_more [] ys d = refl
free_more (x ∷ xs) ys d = free_more xs ys (put_entry (alone x) d)

pub frees : (ps : List StoredPart) (es rest : List Entry) (d : Draft) → free_all rest (free_parts ps es d) ≡ free_all (entries_of ps es ++ rest) d
frees ps es rest d = ap (λ (z : Draft). free_all rest z) (frees_all ps es d) ∙ free_more (entries_of ps es) rest d
