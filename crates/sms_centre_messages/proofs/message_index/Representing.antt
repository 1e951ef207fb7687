-- What is pending shows the messages in the middle of an event.
use Rattle.std.proofs.Common.{◌≡◌, ℕ, List, [], ◌∷◌, ◌++◌, map, Some, refl, sym, ◌∙◌, ap, subst}
use Rattle.sms_rows.specs.declared.table.change.Change.{Change}
use Rattle.sms_rows.specs.declared.table.change.Change.TheVariants.{Put}
use Rattle.sms_rows.specs.table.Since.{oldest_first}
use Rattle.sms_rows.specs.table.Table.{RowsInMemory, all_applied, left_by, newest_of}
use Rattle.sms_rows.proofs.table.SinceLaws.{commits}
use Rattle.sms_rows.proofs.table.Tables.{rises_put, row_at_all_applied}
use Rattle.sms_centre_rows.specs.declared.messages.message.MessageRow.{MessageRow}
use Rattle.sms_centre_rows.specs.declared.messages.part.PartRow.{PartRow}
use Rattle.sms_centre_rows.specs.declared.messages.parts.PartEntry.{PartEntry}
use Rattle.sms_centre_rows.specs.declared.messages.priority.PriorityRow.{PriorityRow}
use Rattle.sms_centre_rows.specs.messages.Messages.{Messages, amend_part, message_at, message_key, messages_of, part_at, part_key, part_reaching, parts_of, put_message, put_part, put_priority}
use Rattle.sms_centre_rows.specs.messages.PartEntries.{PartsOf, amending, entry_key, part_entry, putting}
use Rattle.sms_centre_rows.proofs.messages.Entries.{amending_decides, putting_decides}
use Rattle.sms_centre_rows.specs.declared.waiting.progress.Progress.{Progress}
use Rattle.sms_centre_rows.proofs.waiting.Amending.{rises_amended}
use Rattle.sms_centre_messages.specs.message_index.MessageIndex.{Represents, MessageIndexDraftOf, DraftRepresents, opened}

pub represents_opened : (p : MessageIndexDraftOf) (base : RowsInMemory PartEntry) (ms : List MessageRow) (ps : List PartRow) (qs : List PriorityRow) → p.messages ≡ [] → p.parts ≡ record { entries = record { base = base; changes = [] }; changes = [] } → base ≡ p.index.parts → p.priorities ≡ []
    → Represents p.index ms ps → DraftRepresents p (opened ms ps qs)
represents_opened p base ms ps qs no_messages parts is no_priorities h =
    let parts_base : p.parts.entries.base ≡ p.index.parts = ap (λ (q : PartsOf). q.entries.base) parts ∙ is in
    record {
      index = h;
      messages = no_messages;
      parts = record {
        entries = ap (λ (q : PartsOf). all_applied entry_key q.entries.changes q.entries.base.rows) parts ∙ ap (λ (t : RowsInMemory PartEntry). t.rows) is ∙ h.parts;
        changes = ap (λ (q : PartsOf). q.changes) parts;
      };
      parts_base = parts_base;
      part_keys = h.part_keys;
      priorities = no_priorities;
    }

-- the newest change tells, or else what stood there
pub found_shown : (p : MessageIndexDraftOf) (m : Messages) (n : ℕ) → DraftRepresents p m → message_at n (messages_of m) ≡ left_by (newest_of message_key n p.messages) (message_at n m.messages.base)
found_shown p m n s =
    ap (λ (l : List MessageRow). message_at n l) (sym (commits message_key m.messages.news m.messages.base))
    ∙ row_at_all_applied message_key n (oldest_first m.messages.news) m.messages.base
    ∙ ap (λ (cs : List (Change MessageRow)). left_by (newest_of message_key n cs) (message_at n m.messages.base)) (sym s.messages)

pub represents_message : (row : MessageRow) (p : MessageIndexDraftOf) (m : Messages) → DraftRepresents p m → DraftRepresents (record p { messages = p.messages ++ Put row ∷ [] }) (put_message row m)
represents_message row p m s = record {
  index = s.index;
  messages = ap (λ (cs : List (Change MessageRow)). cs ++ Put row ∷ []) s.messages;
  parts = s.parts;
  parts_base = s.parts_base;
  part_keys = s.part_keys;
  priorities = s.priorities;
}

pub represents_priority : (row : PriorityRow) (p : MessageIndexDraftOf) (m : Messages) → DraftRepresents p m → DraftRepresents (record p { priorities = p.priorities ++ Put row ∷ [] }) (put_priority row m)
represents_priority row p m s = record {
  index = s.index;
  messages = s.messages;
  parts = s.parts;
  parts_base = s.parts_base;
  part_keys = s.part_keys;
  priorities = ap (λ (cs : List (Change PriorityRow)). cs ++ Put row ∷ []) s.priorities;
}

pub represents_part : (row : PartRow) (p : MessageIndexDraftOf) (m : Messages) → DraftRepresents p m → DraftRepresents (record p { parts = putting row p.parts }) (put_part row m)
represents_part row p m s = record {
  index = s.index;
  messages = s.messages;
  parts = putting_decides p.parts m.parts row s.part_keys s.parts;
  parts_base = s.parts_base;
  part_keys = rises_put part_key row (parts_of m) s.part_keys;
  priorities = s.priorities;
}

pub represents_amended : (entry : PartEntry) (progress : Progress) (row : PartRow) (p : MessageIndexDraftOf) (m : Messages) → DraftRepresents p m → part_at row.id row.number (parts_of m) ≡ Some row → part_entry row ≡ entry
    → DraftRepresents (record p { parts = amending entry progress p.parts }) (amend_part row progress m)
represents_amended entry progress row p m s there is = subst (λ (e : PartEntry). DraftRepresents (record p { parts = amending e progress p.parts }) (amend_part row progress m)) is (record {
  index = s.index;
  messages = s.messages;
  parts = amending_decides p.parts m.parts row progress s.part_keys there s.parts;
  parts_base = s.parts_base;
  part_keys = rises_amended part_key part_reaching (λ q r. refl) (part_key row) progress (parts_of m) s.part_keys;
  priorities = s.priorities;
})

-- the changes of parts lead from the parts that stood there to those as they stand
pub parts_match : (p : MessageIndexDraftOf) (m : Messages) → DraftRepresents p m → all_applied entry_key p.parts.entries.changes (map part_entry m.parts.base) ≡ map part_entry (parts_of m)
parts_match p m s =
    ap (λ (es : List PartEntry). all_applied entry_key p.parts.entries.changes es) (sym s.index.parts ∙ ap (λ (t : RowsInMemory PartEntry). t.rows) (sym s.parts_base))
    ∙ s.parts.entries
