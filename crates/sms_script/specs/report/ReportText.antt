-- The text of a report, line by line. A text is the list of its octets.
use Rattle.std.specs.Prelude.{ℕ, ◌+◌, ◌/◌, ◌%◌, List, [], ◌∷◌, ◌++◌, Option, Some, None, codes, decimal}
use Rattle.std.specs.Str.{encode_utf8_all}
use Rattle.hex.specs.Hex.{encode_upper}
use Rattle.sms_base.specs.FinalWords.{final_word}
use Rattle.smpp_pdu.specs.declared.status.CommandStatus.{CommandStatus}
use Rattle.smpp_pdu.specs.declared.status.CommandStatus.TheVariants.{ESME_ROK, ESME_RINVMSGLEN, ESME_RINVCMDLEN, ESME_RINVCMDID, ESME_RINVBNDSTS, ESME_RALYBND}
use Rattle.smpp_pdu.specs.declared.status.CommandStatus.TheVariants.{ESME_RSYSERR, ESME_RINVSRCADR, ESME_RINVDSTADR, ESME_RINVMSGID, ESME_RBINDFAIL}
use Rattle.smpp_pdu.specs.declared.status.CommandStatus.TheVariants.{ESME_RINVPASWD, ESME_RINVSYSID, ESME_RCANCELFAIL, ESME_RMSGQFUL, ESME_RINVESMCLASS}
use Rattle.smpp_pdu.specs.declared.status.CommandStatus.TheVariants.{ESME_RSUBMITFAIL, ESME_RTHROTTLED, ESME_RINVSCHED, ESME_RINVEXPIRY, ESME_RINVOPTPARSTREAM}
use Rattle.smpp_pdu.specs.declared.status.CommandStatus.TheVariants.{ESME_ROPTPARNOTALLWD, ESME_RINVPARLEN}
use Rattle.sms_script.specs.declared.report.answers.Answer.{Answer}
use Rattle.sms_script.specs.declared.report.answers.Answered.{Answered}
use Rattle.sms_script.specs.declared.report.answers.Answered.TheVariants.{Accepted, Found, Status, Done, Refused, Stopped}
use Rattle.sms_centre_rows.specs.declared.report_lines.MessageState.{MessageState}
use Rattle.sms_centre_rows.specs.declared.report_lines.MessageState.TheVariants.{Enroute, Final}
use Rattle.sms_script.specs.declared.report.Broken.{Broken}
use Rattle.sms_script.specs.declared.report.Broken.TheVariants.{Timely, Reused}
use Rattle.sms_script.specs.declared.report.Report.{Report}
use Rattle.sms_script.specs.declared.report.rows.AcceptedRow.{AcceptedRow}
use Rattle.sms_script.specs.declared.report.rows.Direction.{Direction}
use Rattle.sms_script.specs.declared.report.rows.Direction.TheVariants.{Up, Down}
use Rattle.sms_script.specs.declared.report.rows.EntryState.{EntryState}
use Rattle.sms_script.specs.declared.report.rows.EntryState.TheVariants.{Queued, Sending, Sent, Failed, Unsure}
use Rattle.sms_script.specs.declared.report.rows.FrameRow.{FrameRow}
use Rattle.sms_script.specs.declared.report.rows.JoinedCoding.{JoinedCoding}
use Rattle.sms_script.specs.declared.report.rows.JoinedCoding.TheVariants.{Septets, Octets, Ucs2}
use Rattle.sms_script.specs.declared.report.rows.JoinedRow.{JoinedRow}
use Rattle.sms_centre_rows.specs.declared.report_lines.ReportedMessage.{ReportedMessage}
use Rattle.sms_script.specs.declared.report.rows.OutboxRow.{OutboxRow}
use Rattle.sms_centre_rows.specs.declared.report_lines.ReceiptRow.{ReceiptRow}

-- ---- words

abbrev pub digit : ℕ → ℕ
digit n = 48 + n % 10

-- an id as ten decimal digits (SMPP v3.4 5.2.23, message_id)
unfoldable pub id_text : ℕ → List ℕ
id_text n =
    digit (n / 1000000000) ∷ digit (n / 100000000) ∷ digit (n / 10000000) ∷ digit (n / 1000000) ∷ digit (n / 100000) ∷ digit (n / 10000)
    ∷ digit (n / 1000) ∷ digit (n / 100) ∷ digit (n / 10) ∷ digit n ∷ []

-- octets in hexadecimal digits, or `-` where there is none
abbrev pub body_text : List ℕ → List ℕ
body_text [] = codes "-"
body_text (octet ∷ octets) = encode_upper (octet ∷ octets)

-- the word of a receipt for a final state, and that of the standard for none
abbrev pub state_text : MessageState → List ℕ
state_text Enroute = codes "ENROUTE"
state_text (Final state) = final_word state

-- the standard's names of statuses, without their common beginning (SMPP v3.4 5.1.3)
abbrev pub status_text : CommandStatus → List ℕ
status_text ESME_ROK = codes "ROK"
status_text ESME_RINVMSGLEN = codes "RINVMSGLEN"
status_text ESME_RINVCMDLEN = codes "RINVCMDLEN"
status_text ESME_RINVCMDID = codes "RINVCMDID"
status_text ESME_RINVBNDSTS = codes "RINVBNDSTS"
status_text ESME_RALYBND = codes "RALYBND"
status_text ESME_RSYSERR = codes "RSYSERR"
status_text ESME_RINVSRCADR = codes "RINVSRCADR"
status_text ESME_RINVDSTADR = codes "RINVDSTADR"
status_text ESME_RINVMSGID = codes "RINVMSGID"
status_text ESME_RBINDFAIL = codes "RBINDFAIL"
status_text ESME_RINVPASWD = codes "RINVPASWD"
status_text ESME_RINVSYSID = codes "RINVSYSID"
status_text ESME_RCANCELFAIL = codes "RCANCELFAIL"
status_text ESME_RMSGQFUL = codes "RMSGQFUL"
status_text ESME_RINVESMCLASS = codes "RINVESMCLASS"
status_text ESME_RSUBMITFAIL = codes "RSUBMITFAIL"
status_text ESME_RTHROTTLED = codes "RTHROTTLED"
status_text ESME_RINVSCHED = codes "RINVSCHED"
status_text ESME_RINVEXPIRY = codes "RINVEXPIRY"
status_text ESME_RINVOPTPARSTREAM = codes "RINVOPTPARSTREAM"
status_text ESME_ROPTPARNOTALLWD = codes "ROPTPARNOTALLWD"
status_text ESME_RINVPARLEN = codes "RINVPARLEN"

abbrev pub coding_text : JoinedCoding → List ℕ
coding_text Septets = codes "7"
coding_text Octets = codes "8"
coding_text Ucs2 = codes "16"

abbrev pub entry_text : EntryState → List ℕ
entry_text Queued = codes "QUEUED"
entry_text Sending = codes "SENDING"
entry_text Sent = codes "SENT"
entry_text Failed = codes "FAILED"
entry_text Unsure = codes "UNSURE"

abbrev pub direction_text : Direction → List ℕ
direction_text Up = codes "up"
direction_text Down = codes "down"

-- ---- lines

abbrev pub answered_text : Answered → List ℕ
answered_text (Accepted id) = codes "ROK " ++ id_text id
answered_text (Found state) = codes "ROK " ++ state_text state
answered_text (Status status) = status_text status
answered_text Done = codes "OK"
answered_text (Refused code) = code
answered_text Stopped = codes "STOPPED"

abbrev pub answer_line : Answer → List ℕ
answer_line a = codes "answer " ++ decimal a.event ++ codes " " ++ answered_text a.answered ++ codes "\n"

abbrev pub message_line : ReportedMessage → List ℕ
message_line m =
    codes "message " ++ id_text m.id ++ codes " " ++ encode_utf8_all m.from ++ codes " " ++ encode_utf8_all m.to ++ codes " " ++ state_text m.state
    ++ codes "\n"

abbrev pub accepted_line : AcceptedRow → List ℕ
accepted_line a =
    codes "accepted " ++ encode_utf8_all a.handset ++ codes " " ++ encode_upper (a.reference ∷ []) ++ codes " " ++ encode_upper a.tpdu ++ codes "\n"

abbrev pub joined_line : JoinedRow → List ℕ
joined_line j =
    codes "joined " ++ encode_utf8_all j.handset ++ codes " " ++ encode_utf8_all j.from ++ codes " " ++ coding_text j.coding ++ codes " " ++ body_text j.units
    ++ codes "\n"

abbrev pub receipt_line : ReceiptRow → List ℕ
receipt_line r = codes "receipt " ++ id_text r.id ++ codes " " ++ final_word r.state ++ codes "\n"

abbrev pub outbox_line : OutboxRow → List ℕ
outbox_line o = codes "outbox " ++ encode_utf8_all o.handset ++ codes " " ++ decimal o.entry ++ codes " " ++ entry_text o.state ++ codes "\n"

abbrev pub frame_line : FrameRow → List ℕ
frame_line f =
    codes "frame " ++ decimal f.number ++ codes " " ++ direction_text f.direction ++ codes " " ++ encode_utf8_all f.handset ++ codes " "
    ++ encode_upper f.octets ++ codes "\n"

abbrev pub premises_line : Option Broken → List ℕ
premises_line None = codes "premises hold\n"
premises_line (Some (Timely event)) = codes "premises broken at event " ++ decimal event ++ codes ": timely\n"
premises_line (Some (Reused event)) = codes "premises broken at event " ++ decimal event ++ codes ": reused\n"

-- ---- reports

-- the lines of a list
abbrev pub lines : {X : Type 0} → (X → List ℕ) → List X → List ℕ
lines line [] = []
lines line (row ∷ rows) = line row ++ lines line rows

unfoldable pub report_text : Report → Option Broken → List ℕ
report_text r premises =
    lines answer_line r.answers ++ lines message_line r.table ++ lines accepted_line r.accepted ++ lines joined_line r.joined
    ++ lines receipt_line r.receipts ++ lines outbox_line r.outboxes ++ lines frame_line r.bag ++ premises_line premises
