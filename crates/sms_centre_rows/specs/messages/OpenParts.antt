-- What messages are still to bring to a handset: the parts of pending messages that aren't done.
use Rattle.std.specs.Prelude.{ℕ, ◌<◌, ◌&&◌, not, List, [], ◌∷◌, Bool, false, if◌then◌else◌, Option, Some, None}
use Rattle.std.specs.Str.{bytes_eq}
use Rattle.sms_base.specs.Among.{Among}
use Rattle.sms_rows.specs.table.Table.{Rises}
use Rattle.sms_centre_rows.specs.declared.messages.message.MessageRow.{MessageRow}
use Rattle.sms_centre_rows.specs.declared.messages.part.PartRow.{PartRow}
use Rattle.sms_centre_rows.specs.declared.messages.priority.PriorityRow.{PriorityRow}
use Rattle.sms_centre_rows.specs.messages.Messages.{is_pending, message_at, part_key, priority_of}
use Rattle.sms_centre_rows.specs.declared.waiting.queued_part.QueuedPart.{QueuedPart}

-- it isn't done, and its message is pending
abbrev pub is_open_part : PartRow → Option MessageRow → Bool
is_open_part p None = false
is_open_part p (Some m) = not p.progress.is_done && is_pending m

-- and it is for that handset
abbrev pub waits_for : List ℕ → PartRow → Option MessageRow → Bool
waits_for handset p None = false
waits_for handset p (Some m) = not p.progress.is_done && (is_pending m && bytes_eq m.handset handset)

abbrev pub part_queued : PartRow → List PriorityRow → QueuedPart
part_queued p priorities = record {
  id = p.id;
  number = p.number;
  reference = p.reference;
  priority = priority_of p.id priorities;
  due = p.progress.due;
}

-- what waits of a part, if it is there
abbrev pub part_wait : List ℕ → List MessageRow → List PriorityRow → Option PartRow → Option QueuedPart
part_wait handset messages priorities None = None
part_wait handset messages priorities (Some p) = if waits_for handset p (message_at p.id messages) then Some (part_queued p priorities) else None

-- in the order of messages and numbers
abbrev pub parts_waiting : List ℕ → List MessageRow → List PriorityRow → List PartRow → List QueuedPart
parts_waiting handset messages priorities [] = []
parts_waiting handset messages priorities (p ∷ ps) =
    if waits_for handset p (message_at p.id messages) then part_queued p priorities ∷ parts_waiting handset messages priorities ps
    else parts_waiting handset messages priorities ps

-- parts have numbers from 1 to 255, and are in the order of their keys
pub record Numbered (parts : List PartRow) : Type 0 where
  pub keys : Rises part_key parts
  pub numbers : (p : PartRow) → Among p parts → (0 < p.number) × (p.number < 256)
