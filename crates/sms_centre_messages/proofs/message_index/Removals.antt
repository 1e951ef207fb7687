-- A draft from which something is taken out shows the messages without it.
use Rattle.std.proofs.Common.{◌≡◌, ℕ, List, [], ◌∷◌, ◌++◌, map, refl, ◌∙◌, ap, subst, Option, Some, None, sym, suc, ◌+◌, arith, Result, Ok, Err, OnOk}
use Rattle.std.specs.Prelude.{◌==◌, if◌then◌else◌, Bool, true, false}
use Rattle.sms_rows.specs.declared.table.change.Change.{Change}
use Rattle.sms_rows.specs.declared.table.change.Change.TheVariants.{Remove as RemoveRow}
use Rattle.sms_rows.specs.table.Table.{without}
use Rattle.sms_rows.proofs.table.Tables.{all_applied_push, rises_without}
use Rattle.sms_centre_rows.specs.declared.messages.message.MessageRow.{MessageRow}
use Rattle.sms_centre_rows.specs.declared.messages.part.PartRow.{PartRow}
use Rattle.sms_centre_rows.specs.declared.messages.parts.PartEntry.{PartEntry}
use Rattle.sms_centre_rows.specs.declared.messages.priority.PriorityRow.{PriorityRow}
use Rattle.sms_centre_rows.specs.declared.waiting.revision.Revision.{Revision}
use Rattle.sms_centre_rows.specs.declared.waiting.revision.Revision.TheVariants.{Remove}
use Rattle.sms_centre_rows.specs.messages.Messages.{Messages, part_at, part_key, part_reaching, parts_of}
use Rattle.sms_centre_rows.specs.messages.PartEntries.{PartsOf, Represents, entry_key, part_entry}
use Rattle.sms_centre_rows.specs.waiting.Revisions.{Revised, rows_of}
use Rattle.sms_centre_messages.specs.message_index.MessageIndex.{MessageIndexDraftOf, DraftRepresents, found_part}
use Rattle.sms_centre_spec.specs.forgetting.Forget.{part_gone, part_out, parts_out, without_message, without_part, without_priority}
use Rattle.sms_centre_messages.specs.message_index.Removing.{removing}

pub message_removed : (n id : ℕ) (p : MessageIndexDraftOf) (m : Messages) → n ≡ id → DraftRepresents p m
    → DraftRepresents (record p { messages = p.messages ++ RemoveRow n ∷ [] }) (without_message id m)
message_removed n id p m e s = subst (λ (k : ℕ). DraftRepresents (record p { messages = p.messages ++ RemoveRow n ∷ [] }) (without_message k m)) e (record {
  index = s.index;
  messages = ap (λ (cs : List (Change MessageRow)). cs ++ RemoveRow n ∷ []) s.messages;
  parts = s.parts;
  parts_base = s.parts_base;
  part_keys = s.part_keys;
  priorities = s.priorities;
})

pub priority_removed : (n id : ℕ) (p : MessageIndexDraftOf) (m : Messages) → n ≡ id → DraftRepresents p m
    → DraftRepresents (record p { priorities = p.priorities ++ RemoveRow n ∷ [] }) (without_priority id m)
priority_removed n id p m e s = subst (λ (k : ℕ). DraftRepresents (record p { priorities = p.priorities ++ RemoveRow n ∷ [] }) (without_priority k m)) e (record {
  index = s.index;
  messages = s.messages;
  parts = s.parts;
  parts_base = s.parts_base;
  part_keys = s.part_keys;
  priorities = ap (λ (cs : List (Change PriorityRow)). cs ++ RemoveRow n ∷ []) s.priorities;
})

-- ---- parts

entries_without : (k : ℕ) (ps : List PartRow) → without entry_key k (map part_entry ps) ≡ map part_entry (without part_key k ps)
entries_without k [] = refl
entries_without k (p ∷ ps) = go (part_key p == k) (entries_without k ps)
  where
    go : (b : Bool) → without entry_key k (map part_entry ps) ≡ map part_entry (without part_key k ps)
        → (if b then without entry_key k (map part_entry ps) else part_entry p ∷ without entry_key k (map part_entry ps)) ≡ map part_entry (if b then without part_key k ps else p ∷ without part_key k ps)
    go true e = e
    go false e = ap (λ (l : List PartEntry). part_entry p ∷ l) e

removing_decides : (p : PartsOf) (t : Revised PartRow) (k : ℕ) → Represents p t → Represents (removing k p) (record { base = t.base; news = Remove k ∷ t.news })
removing_decides p t k tells = record {
  entries = all_applied_push entry_key p.entries.changes (RemoveRow k) p.entries.base.rows
      ∙ ap (λ (es : List PartEntry). without entry_key k es) tells.entries ∙ entries_without k (rows_of part_key part_reaching t);
  changes = ap (λ (cs : List (Revision PartRow)). cs ++ Remove k ∷ []) tells.changes;
}

pub part_removed : (n k : ℕ) (p : MessageIndexDraftOf) (m : Messages) → n ≡ k → DraftRepresents p m → DraftRepresents (record p { parts = removing n p.parts }) (without_part k m)
part_removed n k p m e s = subst (λ (i : ℕ). DraftRepresents (record p { parts = removing n p.parts }) (without_part i m)) e (record {
  index = s.index;
  messages = s.messages;
  parts = removing_decides p.parts m.parts n s.parts;
  parts_base = s.parts_base;
  part_keys = rises_without part_key n (parts_of m) s.part_keys;
  priorities = s.priorities;
})

-- ---- a part that is looked for

pub on_ok_map : {A E : Type 0} (r : Result A E) (P Q : Type 0) → (P → Q) → OnOk r P → OnOk r Q
on_ok_map (Ok a) P Q f h = f h
on_ok_map (Err e) P Q f h = h

found_some : (o : Option PartRow) (e : PartEntry) → Some e ≡ found_part o → (p : PartRow) × ((o ≡ Some p) × (e ≡ part_entry p))
found_some None e q = absurd cc
found_some (Some p) e q = (p, (refl, cc))

found_none : (o : Option PartRow) → None ≡ found_part o → o ≡ None
found_none None q = refl
found_none (Some p) q = absurd cc

pub part_taken : (id number : ℕ) (e : PartEntry) (after : MessageIndexDraftOf) (m : Messages) → Some e ≡ found_part (part_at id number (parts_of m))
    → DraftRepresents after (without_part (entry_key e) m) → DraftRepresents after (part_out id number m)
part_taken id number e after m q s =
    let f = found_some (part_at id number (parts_of m)) e q in
    subst (λ (o : Option PartRow). DraftRepresents after (part_gone o m)) (sym f.1.0)
    (subst (λ (x : PartEntry). DraftRepresents after (without_part (entry_key x) m)) f.1.1 s)

pub part_absent : (id number : ℕ) (after : MessageIndexDraftOf) (m : Messages) → None ≡ found_part (part_at id number (parts_of m)) → DraftRepresents after m → DraftRepresents after (part_out id number m)
part_absent id number after m q s = subst (λ (o : Option PartRow). DraftRepresents after (part_gone o m)) (sym (found_none (part_at id number (parts_of m)) q)) s

-- ---- part by part

pub parts_first : (id : ℕ) (d : MessageIndexDraftOf) (m : Messages) → DraftRepresents d m → DraftRepresents d (parts_out id 0 m)
unfolding parts_out
parts_first id d m s = s

pub parts_more : (id n : ℕ) (d : MessageIndexDraftOf) (m : Messages) → DraftRepresents d (part_out id (n + 1) (parts_out id n m)) → DraftRepresents d (parts_out id (n + 1) m)
unfolding parts_out
parts_more id n d m s =
    let next : n + 1 ≡ suc n = omega arith in
    subst (λ (k : ℕ). DraftRepresents d (parts_out id k m)) (sym next) (subst (λ (k : ℕ). DraftRepresents d (part_out id k (parts_out id n m))) next s)
