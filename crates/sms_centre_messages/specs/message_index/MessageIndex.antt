-- What a centre keeps in memory of its messages, and which rows it represents.
use Rattle.std.specs.Prelude.{◌≡◌, ℕ, ◌+◌, ◌*◌, ◌≤◌, ◌&&◌, not, nat_le, is_none, List, [], ◌∷◌, length, map, max, Bool, true, if◌then◌else◌, Option, Some, None}
use Rattle.std.specs.Option.{option_map}
use Rattle.sms_base.specs.Among.{Among}
use Rattle.sms_rows.specs.expiry.Deadlines.{DeadlinesOf, first_of}
use Rattle.sms_rows.specs.declared.expiry.deadline.Deadline.{Deadline}
use Rattle.sms_rows.specs.interning.Interning.{Keeps, TookNumbers, Suffices}
use Rattle.sms_rows.specs.declared.table.change.Change.{Change}
use Rattle.sms_rows.specs.declared.table.change.Change.TheVariants.{Put}
use Rattle.sms_rows.specs.table.TableDraft.{FitsIn, TablePlanOf}
use Rattle.sms_rows.specs.table.Since.{oldest_first, untouched}
use Rattle.sms_rows.specs.table.Table.{HasRoom, RowsInMemory, Rises, all_applied, applied}
use Rattle.sms_centre_rows.specs.declared.messages.message.MessageRow.{MessageRow}
use Rattle.sms_centre_rows.specs.declared.messages.part.PartRow.{PartRow}
use Rattle.sms_centre_rows.specs.declared.messages.parts.PartEntry.{PartEntry}
use Rattle.sms_centre_rows.specs.declared.messages.priority.PriorityRow.{PriorityRow}
use Rattle.sms_centre_rows.specs.messages.Messages.{Messages, is_pending, message_at, message_key, parts_of, part_key}
use Rattle.sms_centre_rows.specs.messages.PartEntries.{PartsOf, Represents as PartsRepresent, entry_key, part_entry}
use Rattle.sms_centre_rows.specs.waiting.Revisions.{unrevised}
use Rattle.sms_centre_messages.specs.declared.message_index.message_entry.MessageEntry.{MessageEntry}
use Rattle.sms_centre_messages.specs.message_index.Entries.{AreEntries, NamesOf}

-- ---- between events

pub record MessageIndexOf : Type 0 where
  pub names : NamesOf
  pub messages : RowsInMemory MessageEntry
  pub parts : RowsInMemory PartEntry
  pub deadlines : DeadlinesOf

abbrev pub deadline_of : MessageRow → Deadline
deadline_of m = record { limit = m.limit; id = m.id }

-- each message that is pending has its deadline there
abbrev pub HasDeadlines : List Deadline → List MessageRow → Type 0
HasDeadlines deadlines ms = (m : MessageRow) → Among m ms → is_pending m ≡ true → Among (deadline_of m) deadlines

-- these are the rows of the messages, and these of the parts, which are in order
pub record Represents (k : MessageIndexOf) (ms : List MessageRow) (ps : List PartRow) : Type 0 where
  pub messages : AreEntries k.names k.messages.rows ms
  pub parts : k.parts.rows ≡ map part_entry ps
  pub deadlines : HasDeadlines k.deadlines.items ms
  pub message_keys : Rises message_key ms
  pub part_keys : Rises part_key ps

-- ---- in the middle of an event

-- what was there, and the changes since, the oldest first
pub record MessageIndexDraftOf : Type 0 where
  pub index : MessageIndexOf
  pub messages : List (Change MessageRow)
  pub parts : PartsOf
  pub priorities : List (Change PriorityRow)

-- it is these messages in the middle of the event
pub record DraftRepresents (p : MessageIndexDraftOf) (m : Messages) : Type 0 where
  pub index : Represents p.index m.messages.base m.parts.base
  pub messages : p.messages ≡ oldest_first m.messages.news
  pub parts : PartsRepresent p.parts m.parts
  pub parts_base : p.parts.entries.base ≡ p.index.parts
  pub part_keys : Rises part_key (parts_of m)
  pub priorities : p.priorities ≡ oldest_first m.priorities.news

-- ---- which messages expire

-- the moment of the end of its time is reached
abbrev pub is_past : ℕ → MessageRow → Bool
is_past now m = is_pending m && nat_le m.limit now

abbrev pub past_ids : ℕ → List MessageRow → List ℕ
past_ids now [] = []
past_ids now (m ∷ ms) = if is_past now m then m.id ∷ past_ids now ms else past_ids now ms

-- the number of the message, if it is past
abbrev pub past_id : ℕ → Option MessageRow → Option ℕ
past_id now None = None
past_id now (Some m) = if is_past now m then Some m.id else None

abbrev pub is_ended : Option MessageRow → Bool
is_ended None = true
is_ended (Some m) = not (is_pending m)

-- ---- memory for an event

pub record MessageIndexReserveOf : Type 0 where
  pub parts : TablePlanOf PartEntry
  pub messages : ℕ
  pub numbers : ℕ
  pub accounts : ℕ
  pub deadlines : ℕ

-- it is memory for so many changes of messages, and those of parts
pub record FitsTheMessages (s : MessageIndexReserveOf) (n : ℕ) (k : MessageIndexOf) : Type 0 where
  pub parts : FitsIn s.parts k.parts
  pub messages : length k.messages.rows + n ≤ max k.messages.capacity s.messages
  pub numbers : Suffices (2 * n) s.numbers k.names.numbers
  pub accounts : Suffices n s.accounts k.names.accounts
  pub deadlines : length k.deadlines.items + n ≤ max k.deadlines.capacity s.deadlines

-- so many changes of messages take no memory
pub record HasRoomFor (n : ℕ) (k : MessageIndexOf) : Type 0 where
  pub messages : HasRoom n k.messages
  pub numbers : 2 * n ≤ k.names.numbers.room
  pub accounts : n ≤ k.names.accounts.room
  pub deadlines : length k.deadlines.items + n ≤ k.deadlines.capacity

-- the changes of parts lead from these rows to those
abbrev pub Matches : MessageIndexReserveOf → List PartRow → List PartRow → Type 0
Matches s ps others = (all_applied entry_key s.parts.changes (map part_entry ps) ≡ map part_entry others) × Rises part_key others

-- the change is put in: whatever rows were represented are represented with it, and it takes the room of one
pub record Applies (change : Change MessageRow) (old new : MessageIndexOf) : Type 0 where
  pub holds : (ms : List MessageRow) (ps : List PartRow) → Represents old ms ps → Represents new (applied message_key change ms) ps
  pub room : (n : ℕ) → HasRoomFor (n + 1) old → HasRoomFor n new

abbrev pub PutsIn : MessageRow → MessageIndexOf → MessageIndexOf → Type 0
PutsIn row old new = Applies (Put row) old new

-- the deadline of the message is there, if it is pending, and all others stay
pub record Notes (row : MessageRow) (old new : MessageIndexOf) : Type 0 where
  pub own : is_pending row ≡ true → Among (deadline_of row) new.deadlines.items
  pub others : (other : Deadline) → Among other old.deadlines.items → Among other new.deadlines.items
  pub few : length new.deadlines.items ≤ length old.deadlines.items + 1
  pub room : old.deadlines.capacity ≤ new.deadlines.capacity
  pub names : new.names ≡ old.names
  pub messages : new.messages ≡ old.messages
  pub parts : new.parts ≡ old.parts

-- ---- an event begins

abbrev pub opened : List MessageRow → List PartRow → List PriorityRow → Messages
opened ms ps qs = record { messages = untouched ms; parts = unrevised ps; priorities = untouched qs }

abbrev pub found_part : Option PartRow → Option PartEntry
found_part o = option_map part_entry o

-- the number of an entry's message, if it is past
abbrev pub past_entry_id : ℕ → MessageEntry → Option ℕ
past_entry_id now e = if is_none e.state && nat_le e.limit now then Some e.id else None

-- the memory was taken in, and the parts were changed
pub record TakesInMessages (s : MessageIndexReserveOf) (old new : MessageIndexOf) : Type 0 where
  pub numbers : Keeps old.names.numbers.values new.names.numbers.values
  pub numbers_room : TookNumbers s.numbers old.names.numbers new.names.numbers
  pub accounts : Keeps old.names.accounts.values new.names.accounts.values
  pub accounts_room : TookNumbers s.accounts old.names.accounts new.names.accounts
  pub messages : new.messages.rows ≡ old.messages.rows
  pub messages_room : max old.messages.capacity s.messages ≤ new.messages.capacity
  pub deadlines : (deadline : Deadline) → Among deadline old.deadlines.items → Among deadline new.deadlines.items
  pub deadlines_len : length new.deadlines.items ≡ length old.deadlines.items
  pub deadlines_room : max old.deadlines.capacity s.deadlines ≤ new.deadlines.capacity
  pub parts : new.parts.rows ≡ all_applied entry_key s.parts.changes old.parts.rows

-- the first is the deadline of a message that ended
abbrev pub IsStaleFirst : List MessageRow → MessageIndexOf → Type 0
IsStaleFirst ms k = (d : Deadline) → first_of k.deadlines.items ≡ Some d → is_ended (message_at d.id ms) ≡ true

-- the number of each message that is past is one of these
abbrev pub CoversPast : ℕ → List MessageRow → List ℕ → Type 0
CoversPast now ms numbers = (m : MessageRow) → Among m ms → is_past now m ≡ true → Among m.id numbers
