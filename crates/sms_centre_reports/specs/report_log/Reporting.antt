-- What a centre reports of its messages and of their ends, as the report of a script prints it. It has one row a message with its
-- state, by number. It has one row a receipt or status report with the final state of its message, in the order made.
use Rattle.std.specs.Prelude.{ℕ, List, [], ◌∷◌, ◌++◌, Option, Some, None}
use Rattle.sms_base.specs.declared.final_state.FinalState.{FinalState}
use Rattle.sms_centre_rows.specs.declared.messages.message.MessageRow.{MessageRow}
use Rattle.sms_centre_rows.specs.messages.Messages.{message_at}
use Rattle.sms_centre_rows.specs.declared.reports.report.ReportRow.{ReportRow}
use Rattle.sms_centre_rows.specs.declared.report_lines.MessageState.{MessageState}
use Rattle.sms_centre_rows.specs.declared.report_lines.MessageState.TheVariants.{Enroute, Final}
use Rattle.sms_centre_rows.specs.declared.report_lines.ReportedMessage.{ReportedMessage}
use Rattle.sms_centre_rows.specs.declared.report_lines.ReceiptRow.{ReceiptRow}

-- a message without an end is on its way
abbrev pub state_of : Option FinalState → MessageState
state_of None = Enroute
state_of (Some state) = Final state

abbrev pub message_line : MessageRow → ReportedMessage
message_line m = record { id = m.id; from = m.source.digits; to = m.handset; state = state_of m.state }

abbrev pub message_lines : List MessageRow → List ReportedMessage
message_lines [] = []
message_lines (m ∷ ms) = message_line m ∷ message_lines ms

-- a receipt or status report says how its message ended
abbrev pub receipt_of : ℕ → Option FinalState → List ReceiptRow
receipt_of id None = []
receipt_of id (Some state) = record { id = id; state = state } ∷ []

abbrev pub receipt_line : Option MessageRow → List ReceiptRow
receipt_line None = []
receipt_line (Some m) = receipt_of m.id m.state

abbrev pub receipt_lines : List MessageRow → List ReportRow → List ReceiptRow
receipt_lines messages [] = []
receipt_lines messages (r ∷ rs) = receipt_line (message_at r.id messages) ++ receipt_lines messages rs
