-- The table of what a handset stores. It has the inbox and then the outbox, each under a line that names its columns, a
-- line for each entry. Columns are as wide as their widest cell, and a space.
use Rattle.std.specs.Prelude.{ℕ, List, ◌++◌, codes, decimal, Result, Ok, Err}
use Rattle.sms_tpdu.specs.TpduReading.{down_at, up_at}
use Rattle.sms_tpdu.specs.declared.carrier.Carrier.TheVariants.{InData}
use Rattle.sms_tpdu.specs.declared.down.Down.{Down}
use Rattle.sms_tpdu.specs.declared.down.Down.TheVariants.{Deliver, StatusReport, SubmitReport}
use Rattle.sms_tpdu.specs.declared.fault.TpduFault.{TpduFault}
use Rattle.sms_handset_rows.specs.declared.inbox.entry.Entry.{Entry}
use Rattle.sms_handset_rows.specs.declared.inbox.entry.Message.{Message}
use Rattle.sms_handset_rows.specs.declared.inbox.entry.Message.TheVariants.{Single, Part, Joined}
use Rattle.sms_handset_rows.specs.declared.outbox.out_entry.EntryState.{EntryState}
use Rattle.sms_handset_rows.specs.declared.outbox.out_entry.EntryState.TheVariants.{Queued, Sending, Sent, Failed, Unsure}
use Rattle.sms_handset_rows.specs.declared.outbox.out_entry.OutEntry.{OutEntry}
use Rattle.smsc_cli.specs.columns.Columns.{cell, lines, name_cell}
use Rattle.smsc_cli.specs.handset_table.MessageText.{content_text, delivered_text, submitted_text}

-- ---- columns

-- a number of 32 bits has ten digits at most
abbrev pub number_cell : List ℕ → List ℕ
number_cell word = cell 11 word

-- an address has twenty characters at most
abbrev pub party_cell : List ℕ → List ℕ
party_cell characters = name_cell 22 characters

-- `PART 255/255` is the longest state
abbrev pub state_cell : List ℕ → List ℕ
state_cell word = cell 13 word

-- ---- the inbox

-- the digits or the name of a DELIVER's source
abbrev pub originator : Result Down TpduFault → List ℕ
originator (Ok (Deliver m)) = m.originating_address.digits
originator (Ok (StatusReport report)) = codes "-"
originator (Ok (SubmitReport report)) = codes "-"
originator (Err fault) = codes "-"

abbrev pub source_of : Message → List ℕ
source_of (Single tpdu) = originator (down_at InData tpdu)
source_of (Part group number tpdu) = group.source.digits
source_of (Joined source content) = source.digits

-- a part says which it is, and of how many
abbrev pub message_state : Message → List ℕ
message_state (Single tpdu) = codes "RECEIVED"
message_state (Part group number tpdu) = codes "PART " ++ (decimal number ++ (codes "/" ++ decimal group.total))
message_state (Joined source content) = codes "JOINED"

abbrev pub message_text : Message → List ℕ
message_text (Single tpdu) = delivered_text (down_at InData tpdu)
message_text (Part group number tpdu) = delivered_text (down_at InData tpdu)
message_text (Joined source content) = content_text content

abbrev pub entry_line : Entry → List ℕ
entry_line e =
    number_cell (decimal e.number)
    ++ (party_cell (source_of e.message) ++ (state_cell (message_state e.message) ++ (message_text e.message ++ codes "\n")))

-- ---- the outbox

abbrev pub state_word : EntryState → List ℕ
state_word Queued = codes "QUEUED"
state_word Sending = codes "SENDING"
state_word Sent = codes "SENT"
state_word Failed = codes "FAILED"
state_word Unsure = codes "UNSURE"

abbrev pub out_line : OutEntry → List ℕ
out_line e =
    number_cell (decimal e.number)
    ++ (party_cell e.destination.digits ++ (state_cell (state_word e.state) ++ (submitted_text (up_at InData e.tpdu) ++ codes "\n")))

-- ---- the table

-- the line that names the columns
abbrev pub head_line : List ℕ → List ℕ
head_line party = number_cell (codes "ENTRY") ++ (cell 22 party ++ (state_cell (codes "STATE") ++ codes "TEXT\n"))

unfoldable pub handset_table : List Entry → List OutEntry → List ℕ
handset_table inbox outbox =
    head_line (codes "FROM") ++ (lines entry_line inbox ++ (head_line (codes "TO") ++ lines out_line outbox))
