-- A whole script: its events one after another, the report of where they lead, and the first of them that breaks a premise.
use Rattle.std.specs.Prelude.{ℕ, ◌+◌, List, [], ◌∷◌, ◌++◌, if◌then◌else◌, Option, Some, None, Result, Ok, Err}
use Rattle.sms_base.specs.Reading.{◌>>=◌}
use Rattle.sms_base.specs.declared.final_state.FinalState.{FinalState}
use Rattle.sms_handset_rows.specs.declared.outbox.out_entry.EntryState.{EntryState as OwnState}
use Rattle.sms_handset_rows.specs.declared.outbox.out_entry.EntryState.TheVariants.{Queued as OwnQueued, Sending as OwnSending, Sent as OwnSent}
use Rattle.sms_handset_rows.specs.declared.outbox.out_entry.EntryState.TheVariants.{Failed as OwnFailed, Unsure as OwnUnsure}
use Rattle.sms_handset_rows.specs.declared.outbox.out_entry.OutEntry.{OutEntry}
use Rattle.sms_centre_rows.specs.declared.messages.message.MessageRow.{MessageRow}
use Rattle.sms_centre_rows.specs.messages.Messages.{message_at}
use Rattle.sms_centre_rows.specs.declared.reports.report.ReportRow.{ReportRow}
use Rattle.sms_script.specs.declared.report.Broken.{Broken}
use Rattle.sms_script.specs.declared.report.Report.{Report}
use Rattle.sms_script.specs.declared.report.rows.AcceptedRow.{AcceptedRow}
use Rattle.sms_script.specs.declared.report.rows.EntryState.{EntryState}
use Rattle.sms_script.specs.declared.report.rows.EntryState.TheVariants.{Queued, Sending, Sent, Failed, Unsure}
use Rattle.sms_script.specs.declared.report.rows.JoinedRow.{JoinedRow}
use Rattle.sms_centre_rows.specs.declared.report_lines.ReportedMessage.{ReportedMessage}
use Rattle.sms_script.specs.declared.report.rows.OutboxRow.{OutboxRow}
use Rattle.sms_centre_rows.specs.declared.report_lines.ReceiptRow.{ReceiptRow}
use Rattle.sms_script.specs.declared.event.WorldEvent.{WorldEvent}
use Rattle.sms_script.specs.declared.setup.Setup.{Setup}
use Rattle.sms_script.specs.declared.play_fault.PlayFault.{PlayFault}
use Rattle.sms_script.specs.declared.play_fault.PlayFault.TheVariants.{BadSetup}
use Rattle.sms_play.specs.CentreSide.{state_of}
use Rattle.sms_play.specs.PlayState.{PlayState, Party}
use Rattle.sms_play.specs.PlayedEvent.{played}
use Rattle.sms_play.specs.Premises.{broken_by}
use Rattle.sms_play.specs.Setups.{beginning, can_be_played}

-- ---- events, from a number on

abbrev pub played_on : ℕ → List WorldEvent → PlayState → Result PlayState PlayFault
played_on event [] c = Ok c
played_on event (e ∷ es) c = played event e c >>= λ (d : PlayState). played_on (event + 1) es d

-- the course that a script leads to; its events are numbered from 1
abbrev pub play_state_of : Setup → List WorldEvent → Result PlayState PlayFault
play_state_of s events = if can_be_played s then played_on 1 events (beginning s) else Err BadSetup

-- ---- the report: read off the rows in the end, and what was collected on the way

abbrev pub message_lines : List MessageRow → List ReportedMessage
message_lines [] = []
message_lines (m ∷ ms) = record { id = m.id; from = m.source.digits; to = m.handset; state = state_of m.state } ∷ message_lines ms

abbrev pub accepted_lines : List Party → List AcceptedRow
accepted_lines [] = []
accepted_lines (p ∷ ps) = p.accepted ++ accepted_lines ps

abbrev pub joined_lines : List Party → List JoinedRow
joined_lines [] = []
joined_lines (p ∷ ps) = p.joined ++ joined_lines ps

-- a receipt or status report says how its message ended
abbrev pub receipt_of : ℕ → Option FinalState → List ReceiptRow
receipt_of id None = []
receipt_of id (Some state) = record { id = id; state = state } ∷ []

abbrev pub receipt_line : Option MessageRow → List ReceiptRow
receipt_line None = []
receipt_line (Some m) = receipt_of m.id m.state

abbrev pub receipt_lines : List MessageRow → List ReportRow → List ReceiptRow
receipt_lines messages [] = []
receipt_lines messages (r ∷ rs) = receipt_line (message_at r.id messages) ++ receipt_lines messages rs

abbrev pub entry_state : OwnState → EntryState
entry_state OwnQueued = Queued
entry_state OwnSending = Sending
entry_state OwnSent = Sent
entry_state OwnFailed = Failed
entry_state OwnUnsure = Unsure

abbrev pub outbox_lines : List ℕ → List OutEntry → List OutboxRow
outbox_lines handset [] = []
outbox_lines handset (o ∷ os) = record { handset = handset; entry = o.number; state = entry_state o.state } ∷ outbox_lines handset os

abbrev pub all_outbox_lines : List Party → List OutboxRow
all_outbox_lines [] = []
all_outbox_lines (p ∷ ps) = outbox_lines p.number p.core.rows.outbox ++ all_outbox_lines ps

abbrev pub report_of : PlayState → Report
report_of c = record {
  answers = c.answers;
  table = message_lines c.centre.rows.messages;
  accepted = accepted_lines c.parties;
  joined = joined_lines c.parties;
  receipts = receipt_lines c.centre.rows.messages c.centre.rows.reports;
  outboxes = all_outbox_lines c.parties;
  given = c.given;
  bag = c.bag;
}

abbrev pub play_of : Setup → List WorldEvent → Result Report PlayFault
play_of s events = play_state_of s events >>= λ (c : PlayState). Ok (report_of c)

-- ---- the premises

abbrev pub or_later : Option Broken → Result (Option Broken) PlayFault → Result (Option Broken) PlayFault
or_later None later = later
or_later (Some broken) (Ok later) = Ok (Some broken)
or_later (Some broken) (Err fault) = Err fault

-- the first event that breaks one; faults are those of the play
abbrev pub broken_on : ℕ → List WorldEvent → PlayState → Result (Option Broken) PlayFault
broken_on event [] c = Ok None
broken_on event (e ∷ es) c =
    played event e c >>= λ (d : PlayState). or_later (broken_by event e c d) (broken_on (event + 1) es d)

abbrev pub premises_of : Setup → List WorldEvent → Result (Option Broken) PlayFault
premises_of s events = if can_be_played s then broken_on 1 events (beginning s) else Err BadSetup
