-- The table of what a centre stores: a line for each message, by number, and how many messages are in each state. What a
-- message says is not printed.
use Rattle.std.specs.Prelude.{ℕ, ◌+◌, ◌%◌, ◌==◌, List, [], ◌∷◌, ◌++◌, Bool, codes, decimal, unwrap_or, Option, Some, None, if◌then◌else◌}
use Rattle.sms_base.specs.MessageId.{id_text}
use Rattle.sms_base.specs.SmppTime.{two_digits}
use Rattle.sms_base.specs.UtcClock.{date_of}
use Rattle.sms_base.specs.declared.final_state.FinalState.{FinalState}
use Rattle.sms_base.specs.declared.final_state.FinalState.TheVariants.{Delivered, Expired, Deleted, Undeliverable}
use Rattle.sms_rows.specs.table.Keys.{pair_key}
use Rattle.sms_rows.specs.table.Table.{rows_between}
use Rattle.sms_centre_rows.specs.messages.Messages.{part_key}
use Rattle.sms_centre_rows.specs.declared.messages.message.MessageRow.{MessageRow}
use Rattle.sms_centre_rows.specs.declared.messages.part.PartRow.{PartRow}
use Rattle.smsc_cli.specs.columns.Columns.{cell, lines, name_cell}
use Rattle.smsc_cli.specs.centre_table.Progressing.{attempts_in, due_in}

-- ---- words

-- the words of receipts (SMPP v3.4 appendix B); a message without an end is under way
abbrev pub state_word : Option FinalState → List ℕ
state_word None = codes "ENROUTE"
state_word (Some Delivered) = codes "DELIVRD"
state_word (Some Expired) = codes "EXPIRED"
state_word (Some Deleted) = codes "DELETED"
state_word (Some Undeliverable) = codes "UNDELIV"

-- a moment at UTC, YYMMDDhhmmss
unfoldable pub time_of : ℕ → List ℕ
time_of moment = date_of moment ++ two_digits (moment % 60)

-- the moment of a part that waits; a message that has ended waits for nothing
abbrev pub due_word : Option FinalState → Option ℕ → List ℕ
due_word None (Some due) = time_of due
due_word None None = codes "-"
due_word (Some state) due = codes "-"

-- ---- a message

-- the parts of a message, which are in the order of messages and numbers
abbrev pub own_parts : ℕ → List PartRow → List PartRow
own_parts id parts = rows_between part_key (pair_key id 0) (pair_key (id + 1) 0) parts

-- who it is from and to, and its state
unfoldable pub parties : MessageRow → List ℕ
parties m = cell 11 (id_text m.id) ++ (name_cell 22 m.source.digits ++ (name_cell 22 m.handset ++ cell 8 (state_word m.state)))

-- when it was submitted, and when its state last changed
unfoldable pub moments : MessageRow → List ℕ
moments m = (time_of m.submitted ++ codes " ") ++ (time_of (unwrap_or m.done m.submitted) ++ codes " ")

-- how often it was tried in vain, and when it is tried next
unfoldable pub tries : Option FinalState → List PartRow → List ℕ
tries state own = cell 9 (decimal (attempts_in own)) ++ (due_word state (due_in own) ++ codes "\n")

abbrev pub message_line : List PartRow → MessageRow → List ℕ
message_line parts m = parties m ++ (moments m ++ tries m.state (own_parts m.id parts))

-- the line that names the columns
abbrev pub head_line : List ℕ
head_line = codes "ID         FROM                  TO                    STATE   SUBMITTED    CHANGED      ATTEMPTS DUE\n"

-- ---- totals

abbrev pub place_of : Option FinalState → ℕ
place_of None = 0
place_of (Some Delivered) = 1
place_of (Some Expired) = 2
place_of (Some Deleted) = 3
place_of (Some Undeliverable) = 4

abbrev pub is_state : Option FinalState → Option FinalState → Bool
is_state state other = place_of state == place_of other

abbrev pub counted : Option FinalState → ℕ → List MessageRow → ℕ
counted state count [] = count
counted state count (m ∷ ms) = counted state (if is_state state m.state then count + 1 else count) ms

abbrev pub total_line : List MessageRow → Option FinalState → List ℕ
total_line messages state = cell 8 (state_word state) ++ (decimal (counted state 0 messages) ++ codes "\n")

abbrev pub totals : List MessageRow → List ℕ
totals messages =
    total_line messages None
    ++ (total_line messages (Some Delivered)
    ++ (total_line messages (Some Expired) ++ (total_line messages (Some Deleted) ++ total_line messages (Some Undeliverable))))

-- ---- the table

unfoldable pub centre_table : List MessageRow → List PartRow → List ℕ
centre_table messages parts = head_line ++ (lines (message_line parts) messages ++ totals messages)
