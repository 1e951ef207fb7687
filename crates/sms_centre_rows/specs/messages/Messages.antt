-- Messages, their parts and their priorities, between two events and in the middle of one.
use Rattle.std.specs.Prelude.{ℕ, ◌+◌, ◌==◌, ◌&&◌, not, is_none, List, [], ◌∷◌, Bool, true, Option, Some, None}
use Rattle.sms_base.specs.declared.final_state.FinalState.{FinalState}
use Rattle.sms_rows.specs.table.Keys.{pair_key}
use Rattle.sms_rows.specs.table.Since.{Since, put_in as put_since, rows_of as rows_since}
use Rattle.sms_rows.specs.table.Table.{row_at}
use Rattle.sms_centre_rows.specs.declared.messages.message.MessageRow.{MessageRow}
use Rattle.sms_centre_rows.specs.declared.messages.part.PartRow.{PartRow}
use Rattle.sms_centre_rows.specs.declared.messages.priority.PriorityRow.{PriorityRow}
use Rattle.sms_centre_rows.specs.declared.waiting.progress.Progress.{Progress}
use Rattle.sms_centre_rows.specs.waiting.Revisions.{Revised, put_in, amend_in, rows_of}

abbrev pub message_key : MessageRow → ℕ
message_key m = m.id

-- a number is below 256
abbrev pub part_key : PartRow → ℕ
part_key p = pair_key p.id p.number

abbrev pub priority_key : PriorityRow → ℕ
priority_key p = p.id

-- the part, so far
abbrev pub part_reaching : Progress → PartRow → PartRow
part_reaching progress p = record p { progress = progress }

-- ---- in the middle of an event

pub record Messages : Type 0 where
  pub messages : Since MessageRow
  pub parts : Revised PartRow
  pub priorities : Since PriorityRow

abbrev pub messages_of : Messages → List MessageRow
messages_of s = rows_since message_key s.messages

abbrev pub parts_of : Messages → List PartRow
parts_of s = rows_of part_key part_reaching s.parts

abbrev pub priorities_of : Messages → List PriorityRow
priorities_of s = rows_since priority_key s.priorities

abbrev pub put_message : MessageRow → Messages → Messages
put_message m s = record s { messages = put_since m s.messages }

abbrev pub put_part : PartRow → Messages → Messages
put_part p s = record s { parts = put_in p s.parts }

abbrev pub amend_part : PartRow → Progress → Messages → Messages
amend_part p progress s = record s { parts = amend_in (part_key p) progress s.parts }

abbrev pub put_priority : PriorityRow → Messages → Messages
put_priority p s = record s { priorities = put_since p s.priorities }

-- ---- looked up

abbrev pub message_at : ℕ → List MessageRow → Option MessageRow
message_at id ms = row_at message_key id ms

abbrev pub part_at : ℕ → ℕ → List PartRow → Option PartRow
part_at id number ps = row_at part_key (pair_key id number) ps

abbrev pub priority_in : Option PriorityRow → ℕ
priority_in None = 0
priority_in (Some p) = p.priority

abbrev pub priority_of : ℕ → List PriorityRow → ℕ
priority_of id ps = priority_in (row_at priority_key id ps)

-- ---- numbers of messages: one more than the greatest

abbrev pub id_after : ℕ → List MessageRow → ℕ
id_after id [] = id
id_after id (m ∷ ms) = id_after (m.id + 1) ms

abbrev pub next_id : List MessageRow → ℕ
next_id ms = id_after 1 ms

-- ---- how a message ends

abbrev pub is_pending : MessageRow → Bool
is_pending m = is_none m.state

abbrev pub ended : FinalState → ℕ → MessageRow → MessageRow
ended state moment m = record m { state = Some state; done = Some moment }

-- ---- what of it is done

abbrev pub is_undone : ℕ → PartRow → Bool
is_undone id p = (p.id == id) && not p.progress.is_done

abbrev pub all_done : ℕ → List PartRow → Bool
all_done id [] = true
all_done id (p ∷ ps) = not (is_undone id p) && all_done id ps
