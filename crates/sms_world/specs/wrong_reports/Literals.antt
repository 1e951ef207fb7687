-- A small script: an application submits `hello`, and two frames are handed over. What its reports would be, and reports that break a claim.
use Rattle.std.specs.Prelude.{ℕ, zero, suc, List, [], ◌∷◌, Some, false}
use Rattle.sms_script.specs.declared.setup.Setup.{Setup}
use Rattle.sms_script.specs.declared.setup.AccountSetup.{AccountSetup}
use Rattle.sms_script.specs.declared.setup.HandsetSetup.{HandsetSetup}
use Rattle.sms_script.specs.declared.event.Submission.{Submission}
use Rattle.sms_script.specs.declared.event.Act.{Act}
use Rattle.sms_script.specs.declared.event.Act.TheVariants.{Submit, Deliver, Write}
use Rattle.sms_script.specs.declared.event.WorldEvent.{WorldEvent}
use Rattle.sms_script.specs.declared.event.StopPoint.{StopPoint}
use Rattle.sms_script.specs.declared.event.WorldEvent.TheVariants.{Stopped, Whole}
use Rattle.sms_script.specs.declared.report.Report.{Report}
use Rattle.sms_script.specs.declared.report.answers.Answer.{Answer}
use Rattle.sms_script.specs.declared.report.answers.Answered.{Answered}
use Rattle.sms_script.specs.declared.report.answers.Answered.TheVariants.{Accepted, Status}
use Rattle.sms_centre_rows.specs.declared.report_lines.MessageState.{MessageState}
use Rattle.sms_centre_rows.specs.declared.report_lines.MessageState.TheVariants.{Enroute, Final}
use Rattle.sms_centre_rows.specs.declared.report_lines.ReportedMessage.{ReportedMessage}
use Rattle.sms_script.specs.declared.report.rows.AcceptedRow.{AcceptedRow}
use Rattle.sms_centre_rows.specs.declared.report_lines.ReceiptRow.{ReceiptRow}
use Rattle.sms_base.specs.declared.carried.Carried.{Carried}
use Rattle.sms_script.specs.declared.report.rows.FrameRow.{FrameRow}
use Rattle.sms_script.specs.declared.report.rows.GivenRow.{GivenRow}
use Rattle.sms_script.specs.declared.report.rows.JoinedRow.{JoinedRow}
use Rattle.sms_script.specs.declared.report.rows.JoinedCoding.TheVariants.{Octets, Septets}
use Rattle.sms_script.specs.declared.report.rows.Direction.TheVariants.{Up, Down}
use Rattle.sms_base.specs.declared.final_state.FinalState.TheVariants.{Delivered, Expired, Deleted}
use Rattle.sms_base.specs.declared.holder.Holder.TheVariants.{Entry, Part, Report as ReportHolder}
use Rattle.sms_base.specs.declared.carried.Kind.TheVariants.{Data}
use Rattle.smpp_pdu.specs.declared.status.CommandStatus.TheVariants.{ESME_RSYSERR}
use Rattle.sms_script.specs.declared.report.rows.EntryState.TheVariants.{Sent}

-- ---- the script

-- app1
abbrev pub name : List ℕ
name = 97 ∷ 112 ∷ 112 ∷ 49 ∷ []

-- 15550001
abbrev pub source : List ℕ
source = 49 ∷ 53 ∷ 53 ∷ 53 ∷ 48 ∷ 48 ∷ 48 ∷ 49 ∷ []

-- 447700900456
abbrev pub handset : List ℕ
handset = 52 ∷ 52 ∷ 55 ∷ 55 ∷ 48 ∷ 48 ∷ 57 ∷ 48 ∷ 48 ∷ 52 ∷ 53 ∷ 54 ∷ []

abbrev pub account : AccountSetup
account = record { name = name; password = []; number = source }

abbrev pub setup : Setup
setup = record { start = 946684800; centre = 49 ∷ []; accounts = account ∷ []; handsets = record { number = handset; slots = 10 } ∷ [] }

-- 68656C6C6F
abbrev pub hello : List ℕ
hello = 104 ∷ 101 ∷ 108 ∷ 108 ∷ 111 ∷ []

abbrev pub asked : Submission
asked = record { name = name; to = handset; coding = 0; esm_class = 0; registered_delivery = 1; validity = []; message = hello; priority = 0 }

abbrev pub submits : WorldEvent
submits = Whole (Submit asked)

abbrev pub events : List WorldEvent
events = submits ∷ Whole (Deliver 1) ∷ Whole (Deliver 2) ∷ []

-- 0000000001
abbrev pub id_one : List ℕ
id_one = 48 ∷ 48 ∷ 48 ∷ 48 ∷ 48 ∷ 48 ∷ 48 ∷ 48 ∷ 48 ∷ 49 ∷ []

-- ---- lines

abbrev pub line : MessageState → ReportedMessage
line state = record { id = 1; from = source; to = handset; state = state }

abbrev pub given : GivenRow
given = record { handset = handset; direction = Down; reference = 0; holder = Part 1 1; moment = 946684800 }

abbrev pub answer : Answer
answer = record { event = 1; answered = Accepted 1 }

-- a DELIVER with the user data of a text of five septets, at midnight of 1 January 2000
abbrev pub deliver : List ℕ → List ℕ
deliver data_octets = 36 ∷ 8 ∷ 145 ∷ 81 ∷ 85 ∷ 0 ∷ 16 ∷ 0 ∷ 0 ∷ 0 ∷ 16 ∷ 16 ∷ 0 ∷ 0 ∷ 0 ∷ 0 ∷ 5 ∷ data_octets

-- hello, in septets: E8329BFD06
abbrev pub hello_octets : List ℕ
hello_octets = 232 ∷ 50 ∷ 155 ∷ 253 ∷ 6 ∷ []

-- another text: E8329BFD07
abbrev pub other_octets : List ℕ
other_octets = 232 ∷ 50 ∷ 155 ∷ 253 ∷ 7 ∷ []

abbrev pub accepted : List ℕ → AcceptedRow
accepted data_octets = record { handset = handset; reference = 0; tpdu = deliver data_octets }

abbrev pub receipt : ReceiptRow
receipt = record { id = 1; state = Delivered }

-- ---- reports

abbrev pub nothing : Report
nothing = record { answers = []; table = []; accepted = []; joined = []; receipts = []; outboxes = []; given = []; bag = [] }

abbrev pub taken : Report
taken = record nothing { answers = answer ∷ []; table = line Enroute ∷ []; given = given ∷ [] }

-- with these accepted lines
abbrev pub handed : List AcceptedRow → Report
handed rows = record taken { accepted = rows }

-- in the end, with that state, these accepted lines and these receipts
abbrev pub ended : MessageState → List AcceptedRow → List ReceiptRow → Report
ended state rows receipts = record taken { table = line state ∷ []; accepted = rows; receipts = receipts }

-- the reports after each event, by the last one
abbrev pub reports : Report → ℕ → Report
reports last zero = nothing
reports last (suc zero) = taken
reports last (suc (suc zero)) = handed (accepted hello_octets ∷ [])
reports last (suc (suc (suc n))) = last

abbrev pub good : Report
good = ended (Final Delivered) (accepted hello_octets ∷ []) (receipt ∷ [])

abbrev pub accepted_twice : Report
accepted_twice = ended (Final Delivered) (accepted hello_octets ∷ accepted hello_octets ∷ []) (receipt ∷ [])

abbrev pub never_accepted : Report
never_accepted = ended (Final Delivered) [] (receipt ∷ [])

abbrev pub other_text : Report
other_text = ended (Final Delivered) (accepted other_octets ∷ []) (receipt ∷ [])

abbrev pub receipt_of_expired : Report
receipt_of_expired = ended (Final Expired) [] (receipt ∷ [])

abbrev pub two_receipts : Report
two_receipts = ended (Final Delivered) (accepted hello_octets ∷ []) (receipt ∷ receipt ∷ [])

abbrev pub joined_of_nothing : Report
joined_of_nothing = record nothing { joined = record { handset = handset; from = source; coding = Septets; units = hello } ∷ [] }

-- ---- a query and a cancellation of a message that is under way

abbrev pub asking : Act → List WorldEvent
asking act = submits ∷ Whole act ∷ []

abbrev pub asked_then : Answered → List ReportedMessage → ℕ → Report
asked_then answered table zero = nothing
asked_then answered table (suc zero) = taken
asked_then answered table (suc (suc n)) = record taken { answers = answer ∷ record { event = 2; answered = answered } ∷ []; table = table }

-- ---- two submissions that were answered one number

abbrev pub both_one : Report
both_one = record taken { answers = answer ∷ record { event = 2; answered = Accepted 1 } ∷ [] }

abbrev pub both_reports : ℕ → Report
both_reports zero = nothing
both_reports (suc zero) = taken
both_reports (suc (suc n)) = both_one

-- ---- more that break a claim

abbrev pub two_lines : Report
two_lines = record taken { table = line Enroute ∷ line Enroute ∷ [] }

abbrev pub sent_of_nobody : Report
sent_of_nobody = record nothing { outboxes = record { handset = handset; entry = 1; state = Sent } ∷ [] }

abbrev pub accepted_of_nobody : Report
accepted_of_nobody = record nothing { accepted = accepted hello_octets ∷ [] }

abbrev pub given_twice : Report
given_twice = record taken { given = given ∷ record given { holder = Part 2 1 } ∷ [] }

abbrev pub system_error : Report
system_error = record nothing { answers = record { event = 1; answered = Status ESME_RSYSERR } ∷ [] }

-- the message is DELETED behind an event that hands over a frame
abbrev pub deleted_by_nobody : ℕ → Report
deleted_by_nobody zero = nothing
deleted_by_nobody (suc zero) = taken
deleted_by_nobody (suc (suc n)) = ended (Final Deleted) [] []

-- a message that is there though no event submitted it
abbrev pub of_nobody : ℕ → Report
of_nobody n = record nothing { table = line Enroute ∷ [] }

-- two answers of one event
abbrev pub twice_answered : Report
twice_answered = record taken { answers = answer ∷ answer ∷ [] }

-- a frame that was made for the status report of a message, of which none is listed
abbrev pub unlisted : Report
unlisted = record nothing {
  bag = record {
    number = 1;
    direction = Down;
    handset = handset;
    carried = Some (record { kind = Data; reference = 0; tag = ReportHolder 1 });
    octets = [];
  }
      ∷ [];
}

-- ---- a submission that was stopped before the store call, or behind it

abbrev pub stopping : StopPoint → List WorldEvent
stopping stop = Stopped stop (Submit asked) ∷ []

-- its message is there, and nobody was answered
abbrev pub unanswered : Report
unanswered = record taken { answers = [] }

abbrev pub stopped : ℕ → Report
stopped zero = nothing
stopped (suc n) = unanswered

-- ---- a text of two parts

abbrev pub zeros : ℕ → List ℕ
zeros zero = []
zeros (suc n) = 0 ∷ zeros n

-- 141 octets, one more than a part has room for
abbrev pub long_asked : Submission
long_asked = record asked { coding = 4; message = zeros 141 }

abbrev pub long_events : List WorldEvent
long_events = Whole (Submit long_asked) ∷ []

-- it is DELIVRD, and only what has the reference of its first part was accepted
abbrev pub half : Report
half = record taken {
  table = line (Final Delivered) ∷ [];
  given = given ∷ record given { reference = 1; holder = Part 1 2 } ∷ [];
  accepted = accepted hello_octets ∷ [];
}

abbrev pub half_reports : ℕ → Report
half_reports zero = nothing
half_reports (suc n) = half

-- both parts were accepted: 8-bit data behind a header of the 16-bit reference 7 (3GPP TS 23.040 9.2.3.24.8)
abbrev pub second_given : GivenRow
second_given = record given { reference = 1; holder = Part 1 2 }

abbrev pub long_data : ℕ → ℕ → List ℕ
long_data number size = 6 ∷ 8 ∷ 4 ∷ 0 ∷ 7 ∷ 2 ∷ number ∷ zeros size

abbrev pub long_accepted : ℕ → ℕ → ℕ → ℕ → AcceptedRow
long_accepted reference number size length = record {
  handset = handset;
  reference = reference;
  tpdu = 100 ∷ 8 ∷ 145 ∷ 81 ∷ 85 ∷ 0 ∷ 16 ∷ 0 ∷ 4 ∷ 0 ∷ 16 ∷ 16 ∷ 0 ∷ 0 ∷ 0 ∷ 0 ∷ length ∷ long_data number size;
}

abbrev pub both : Report
both = record half { given = given ∷ second_given ∷ []; accepted = long_accepted 0 1 133 140 ∷ long_accepted 1 2 8 15 ∷ [] }

abbrev pub both_parts : ℕ → Report
both_parts zero = nothing
both_parts (suc n) = both

-- ---- two messages of one part each, which are the two parts of one long text

-- 8-bit data: a header of the 8-bit reference 7, two parts and this number (3GPP TS 23.040 9.2.3.24.1), and one octet
abbrev pub piece_asked : ℕ → ℕ → Submission
piece_asked number octet = record asked { coding = 4; esm_class = 64; message = 5 ∷ 0 ∷ 3 ∷ 7 ∷ 2 ∷ number ∷ octet ∷ [] }

abbrev pub piece_events : List WorldEvent
piece_events = Whole (Submit (piece_asked 1 65)) ∷ Whole (Submit (piece_asked 2 66)) ∷ []

abbrev pub piece_line : ℕ → ReportedMessage
piece_line id = record { id = id; from = source; to = handset; state = Final Delivered }

abbrev pub joined_row : JoinedRow
joined_row = record { handset = handset; from = source; coding = Octets; units = 65 ∷ 66 ∷ [] }

abbrev pub joined_twice : Report
joined_twice = record nothing { table = piece_line 1 ∷ piece_line 2 ∷ []; joined = joined_row ∷ joined_row ∷ [] }

abbrev pub piece_reports : ℕ → Report
piece_reports zero = nothing
piece_reports (suc zero) = record nothing { table = piece_line 1 ∷ [] }
piece_reports (suc (suc n)) = joined_twice

-- ---- a text that the owner of a handset wrote

-- 44770090012
abbrev pub writer : List ℕ
writer = 52 ∷ 52 ∷ 55 ∷ 55 ∷ 48 ∷ 48 ∷ 57 ∷ 48 ∷ 48 ∷ 49 ∷ 50 ∷ []

abbrev pub of_writer : HandsetSetup
of_writer = record { number = writer; slots = 10 }

abbrev pub owner_setup : Setup
owner_setup = record { start = 946684800; centre = 49 ∷ []; accounts = []; handsets = of_writer ∷ record { number = handset; slots = 10 } ∷ [] }

-- he writes it, and its frame is handed over
abbrev pub owner_events : List WorldEvent
owner_events = Whole (Write writer handset false hello) ∷ Whole (Deliver 1) ∷ []

abbrev pub owner_given : GivenRow
owner_given = record { handset = writer; direction = Up; reference = 0; holder = Entry 1; moment = 946684800 }

-- the frame is said to be of that entry
abbrev pub owner_carried : ℕ → Carried
owner_carried entry = record { kind = Data; reference = 0; tag = Entry entry }

abbrev pub owner_frame : ℕ → FrameRow
owner_frame entry = record { number = 1; direction = Up; handset = writer; carried = Some (owner_carried entry); octets = [] }

abbrev pub owner_line : List ℕ → ReportedMessage
owner_line to = record { id = 1; from = writer; to = to; state = Enroute }

abbrev pub owner_wrote : ℕ → Report
owner_wrote entry = record nothing { given = owner_given ∷ []; bag = owner_frame entry ∷ [] }

abbrev pub owner_reports : ℕ → ReportedMessage → ℕ → Report
owner_reports entry message zero = nothing
owner_reports entry message (suc zero) = owner_wrote entry
owner_reports entry message (suc (suc n)) = record (owner_wrote entry) { table = message ∷ [] }
