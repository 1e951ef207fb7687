-- A small play state: an application's text and a handset's text, both delivered, and the STATUS-REPORT of the second on its way.
use Rattle.std.specs.Prelude.{ℕ, List, [], ◌∷◌, Some, None, true, false}
use Rattle.sms_base.specs.HandsetNumber.{own_address}
use Rattle.sms_base.specs.declared.carried.Kind.TheVariants.{Data}
use Rattle.sms_base.specs.declared.holder.Holder.TheVariants.{Part, Report as ReportHolder}
use Rattle.sms_base.specs.declared.originator.Originator.TheVariants.{Application}
use Rattle.sms_centre_rows.specs.declared.messages.message.MessageRow.{MessageRow}
use Rattle.sms_centre_rows.specs.declared.messages.part.PartRow.{PartRow}
use Rattle.sms_centre_rows.specs.declared.reports.report.ReportKind.{ReportKind}
use Rattle.sms_centre_rows.specs.declared.reports.report.ReportKind.TheVariants.{Receipt}
use Rattle.sms_centre_rows.specs.declared.reports.report.ReportRow.{ReportRow}
use Rattle.sms_centre_rows.specs.declared.waiting.progress.Progress.{Progress}
use Rattle.sms_handset_draft.specs.Draft.{Core as HandsetCore}
use Rattle.sms_handset_rows.specs.declared.outbox.out_entry.EntryState.TheVariants.{Sent}
use Rattle.sms_handset_rows.specs.declared.outbox.out_entry.OutEntry.{OutEntry}
use Rattle.sms_play.specs.PlayState.{Party, PlayState}
use Rattle.sms_handset_draft.specs.Draft.{recovered as handset_recovered}
use Rattle.sms_handset_draft.specs.FirstRows.{first_rows}
use Rattle.sms_play.specs.Setups.{beginning, handset_setup}
use Rattle.sms_script.specs.declared.report.rows.AcceptedRow.{AcceptedRow}
use Rattle.sms_script.specs.declared.report.rows.Direction.TheVariants.{Down}
use Rattle.sms_script.specs.declared.report.rows.FrameRow.{FrameRow}
use Rattle.sms_script.specs.declared.report.rows.GivenRow.{GivenRow}
use Rattle.sms_script.specs.declared.report.rows.JoinedRow.{JoinedRow}
use Rattle.sms_script.specs.declared.setup.HandsetSetup.{HandsetSetup}
use Rattle.sms_script.specs.declared.setup.Setup.{Setup}
use Rattle.sms_world.specs.wrong_reports.Literals.{account, deliver, given, handset, hello_octets, name, of_writer, source, writer}
use Rattle.sms_world.specs.wrong_reports.StatusReports.{message}

-- ---- the head: an account, and two handsets

abbrev pub of_handset : HandsetSetup
of_handset = record { number = handset; slots = 10 }

abbrev pub setup : Setup
setup = record { start = 946684800; centre = 49 ∷ []; accounts = account ∷ []; handsets = of_handset ∷ of_writer ∷ [] }

abbrev pub first : PlayState
first = beginning setup

-- the handset of that number, as it begins, with what it accepted
abbrev pub party : List ℕ → List AcceptedRow → HandsetCore → Party
party number rows core = record { number = number; core = core; accepted = rows; joined = [] }

-- ---- messages

abbrev pub from_application : MessageRow
from_application = record message { originator = Application name; source = own_address source }

abbrev pub from_writer : MessageRow
from_writer = record message { id = 2 }

-- ---- their parts

abbrev pub progress : Progress
progress = record { is_done = true; attempts = 0; due = 946684800 }

abbrev pub part_one : PartRow
part_one = record { id = 1; number = 1; reference = 0; tpdu = deliver hello_octets; key = None; progress = progress }

-- a DELIVER from the writer with the user data of a text of five septets, at midnight of 1 January 2000
abbrev pub writers_deliver : List ℕ
writers_deliver = 36 ∷ 11 ∷ 145 ∷ 68 ∷ 119 ∷ 0 ∷ 9 ∷ 16 ∷ 242 ∷ 0 ∷ 0 ∷ 0 ∷ 16 ∷ 16 ∷ 0 ∷ 0 ∷ 0 ∷ 0 ∷ 5 ∷ hello_octets

abbrev pub part_two : PartRow
part_two = record { id = 2; number = 1; reference = 1; tpdu = writers_deliver; key = None; progress = progress }

abbrev pub accepted_two : AcceptedRow
accepted_two = record { handset = handset; reference = 1; tpdu = writers_deliver }

abbrev pub given_two : GivenRow
given_two = record { handset = handset; direction = Down; reference = 1; holder = Part 2 1; moment = 946684800 }

-- ---- their receipt and status report

abbrev pub report_row : ℕ → ℕ → ReportKind → ReportRow
report_row place id kind =
    record { place = place; id = id; kind = kind; made = 946684860; progress = record { is_done = false; attempts = 0; due = 946684860 } }

-- under TP-MR 7, of the writer's message to the handset, which was received (3GPP TS 23.040 9.2.2.3)
abbrev pub status_report : List ℕ
status_report = 6 ∷ 7 ∷ 12 ∷ 145 ∷ 68 ∷ 119 ∷ 0 ∷ 9 ∷ 64 ∷ 101 ∷ 0 ∷ 16 ∷ 16 ∷ 0 ∷ 0 ∷ 0 ∷ 0 ∷ 0 ∷ 16 ∷ 16 ∷ 0 ∷ 16 ∷ 0 ∷ 0 ∷ 0 ∷ []

abbrev pub given_report : GivenRow
given_report = record { handset = writer; direction = Down; reference = 0; holder = ReportHolder 2; moment = 946684860 }

-- in RP-DATA and CP-DATA from the centre (3GPP TS 24.011 7.3.1.1, 7.2.1)
abbrev pub frame_to : List ℕ → FrameRow
frame_to number = record {
  number = 1;
  direction = Down;
  handset = number;
  carried = Some (record { kind = Data; reference = 0; tag = ReportHolder 2 });
  octets = 9 ∷ 1 ∷ 32 ∷ 1 ∷ 0 ∷ 2 ∷ 145 ∷ 241 ∷ 0 ∷ 25 ∷ status_report;
}

-- ---- the writer's outbox

-- a SUBMIT under TP-MR 7 to the handset, with that text and the wish for a report (3GPP TS 23.040 9.2.2.2)
abbrev pub writers_submit : List ℕ
writers_submit = 33 ∷ 7 ∷ 12 ∷ 145 ∷ 68 ∷ 119 ∷ 0 ∷ 9 ∷ 64 ∷ 101 ∷ 0 ∷ 0 ∷ 5 ∷ hello_octets

abbrev pub entry : OutEntry
entry = record {
  number = 1;
  message_reference = 7;
  reference = 0;
  destination = own_address handset;
  tpdu = writers_submit;
  is_long = false;
  state = Sent;
  tries = 1;
  rejects_duplicates = false;
  due = None;
  status = Some 0;
}

abbrev pub writers_core : HandsetCore
writers_core = handset_recovered (record (first_rows (handset_setup setup of_writer)) { outbox = entry ∷ [] })

-- ---- play states

abbrev pub with_rows : List MessageRow → List PartRow → List ReportRow → PlayState
with_rows messages parts reports =
    record first { centre = record first.centre { rows = record first.centre.rows { messages = messages; parts = parts; reports = reports } } }

-- the first message is delivered, and its handset accepted that
abbrev pub delivered : List AcceptedRow → PlayState
delivered rows = record (with_rows (from_application ∷ []) (part_one ∷ []) (report_row 1 1 Receipt ∷ [])) {
  parties = party handset rows (handset_recovered (first_rows (handset_setup setup of_handset))) ∷ [];
  given = given ∷ [];
}

-- the second one is from the writer's entry
abbrev pub sent : List MessageRow → List PartRow → PlayState
sent messages parts = record (with_rows messages parts []) { parties = party writer [] writers_core ∷ [] }

-- both are delivered, and the STATUS-REPORT of the second goes to that handset
abbrev pub reporting : List MessageRow → List ℕ → PlayState
reporting messages to = record (with_rows messages [] []) { bag = frame_to to ∷ [] }

-- the handset joined that
abbrev pub joined : List JoinedRow → PlayState
joined rows = record first {
  parties = record { number = handset; core = handset_recovered (first_rows (handset_setup setup of_handset)); accepted = []; joined = rows } ∷ [];
}
