-- What a centre reports of a message, and whose it is.
use Rattle.std.specs.Prelude.{ℕ, List, Bool, false, Option, Some, None}
use Rattle.sms_centre_rows.specs.declared.messages.message.MessageRow.{MessageRow}
use Rattle.sms_centre_rows.specs.reports.Receipts.{is_account}
use Rattle.sms_centre_messages.specs.declared.message_index.summary.MessageSummary.{MessageSummary}

abbrev pub summary_of : MessageRow → MessageSummary
summary_of m = record { id = m.id; source = m.source; handset = m.handset; state = m.state }

-- it is there, and an application of the account submitted it
abbrev pub is_of : List ℕ → Option MessageRow → Bool
is_of account None = false
is_of account (Some m) = is_account account m.originator
