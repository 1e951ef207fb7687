-- The state of an entry once its transfer has ended.
use Rattle.std.specs.Prelude.{ℕ, nat_le, ◌||◌, true, if◌then◌else◌, None, Some, Bool, false}
use Rattle.sms_control.specs.Timers.{later}
use Rattle.sms_handset_rows.specs.declared.outbox.out_entry.EntryState.TheVariants.{Queued, Unsure, Failed, Sent, Sending}
use Rattle.sms_handset_rows.specs.declared.outbox.out_entry.OutEntry.{OutEntry}
use Rattle.sms_handset_rows.specs.declared.outbox.answers.TransferEnd.{TransferEnd}
use Rattle.sms_handset_rows.specs.declared.outbox.answers.TransferEnd.TheVariants.{Acknowledged, Temporary, Duplicate, Refused, Lost}
use Rattle.sms_handset_rows.specs.declared.outbox.out_entry.EntryState.{EntryState}

-- how often an entry is sent
abbrev pub most_tries : ℕ
most_tries = 3

-- seconds until an entry that a temporary cause put back is due
abbrev pub retry_delay : ℕ
retry_delay = 60

-- ---- how a transfer ends

-- Whether the centre took it is not known: it is sent again at once with TP-RD 1. After the last try, and for a part of a
-- long text, it stays unknown.
abbrev pub lost : OutEntry → OutEntry
lost o =
    if o.is_long || nat_le most_tries o.tries then record o { state = Unsure }
    else record o { state = Queued; rejects_duplicates = true; due = None }

-- the cause passes
abbrev pub put_back : ℕ → OutEntry → OutEntry
put_back moment o =
    if nat_le most_tries o.tries then record o { state = Failed }
    else record o { state = Queued; due = Some (later moment retry_delay) }

abbrev pub settled : ℕ → TransferEnd → OutEntry → OutEntry
settled moment Acknowledged o = record o { state = Sent }
settled moment Temporary o = put_back moment o
settled moment Duplicate o = record o { state = Unsure }
settled moment Refused o = record o { state = Failed }
settled moment Lost o = lost o

-- ---- after a restart: what was under way is lost

abbrev pub is_sending : EntryState → Bool
is_sending Queued = false
is_sending Sending = true
is_sending Sent = false
is_sending Failed = false
is_sending Unsure = false
