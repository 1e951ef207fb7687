-- The plain headline, and its claims one by one, proved of the course that a report is read off.
use Rattle.std.specs.Prelude.{◌≡◌, ◌<◌, ℕ, suc, List, length, Ok, Option, true}
use Rattle.sms_base.specs.Among.{Among}
use Rattle.sms_base.specs.declared.final_state.FinalState.TheVariants.{Delivered}
use Rattle.sms_play.specs.PlayState.{PlayState}
use Rattle.sms_play.specs.Playing.{play_of, premises_of, report_of}
use Rattle.sms_play.specs.Setups.{beginning}
use Rattle.sms_script.specs.declared.event.WorldEvent.{WorldEvent}
use Rattle.sms_script.specs.declared.report.Broken.{Broken}
use Rattle.sms_script.specs.declared.report.Report.{Report}
use Rattle.sms_script.specs.declared.report.answers.Answer.{Answer}
use Rattle.sms_script.specs.declared.report.answers.Answered.TheVariants.{Accepted}
use Rattle.sms_centre_rows.specs.declared.report_lines.MessageState.TheVariants.{Final}
use Rattle.sms_script.specs.declared.report.rows.AcceptedRow.{AcceptedRow}
use Rattle.sms_script.specs.declared.report.rows.EntryState.TheVariants.{Sent}
use Rattle.sms_script.specs.declared.report.rows.OutboxRow.{OutboxRow}
use Rattle.sms_centre_rows.specs.declared.report_lines.ReceiptRow.{ReceiptRow}
use Rattle.sms_centre_rows.specs.declared.report_lines.ReportedMessage.{ReportedMessage}
use Rattle.sms_script.specs.declared.script.Script.{Script}
use Rattle.sms_script.specs.declared.setup.Setup.{Setup}
use Rattle.sms_world.specs.headline.Claims.{AllFresh, AllTimely}
use Rattle.sms_world.specs.headline.HeadlineLaws.{IsScript, LeadsOn, Of}
use Rattle.sms_world.specs.headline.PlainHeadline.{PlainHeadline, Receipts}
use Rattle.sms_world.specs.headline.PlainReport.{AnswersAscend, AreAscending, CancelsAreTrue, EachJoined, GivenOnce, IsOfEvent, IsPartOf, IsSent, NamesMessage}
use Rattle.sms_world.specs.headline.PlainReport.{NoSystemError, NoneTwice, OnlyCancelsDelete, QueriesAreTrue, Stays, WasDelivered, compared_lines, is_deliver}
use Rattle.sms_world.specs.headline.PlainReports.{HasPlainHeadline, ReportsOf}
use Rattle.sms_world.specs.headline.TypedEvents.{AreTyped}

-- each message has one line, in the order of their numbers
abbrev pub AscendingLaw : Type 0
AscendingLaw = Of (λ c. AreAscending (report_of c).table)

-- lines, final states and receipts stay in the report of each longer part of the script
abbrev pub LongerLaw : Type 0
LongerLaw =
    (script : Script) (some others : List WorldEvent) (c d : PlayState) → IsScript script some others → LeadsOn script some c d
    → Stays (report_of c) (report_of d)

-- receipts and status reports have the final state of their message, one each, and frames are made for listed ones only
abbrev pub ReceiptsLaw : Type 0
ReceiptsLaw = Of (λ c. Receipts (report_of c))

-- the centre gives no reference twice at one handset in one second
abbrev pub ReferencesLaw : Type 0
ReferencesLaw = Of (λ c. GivenOnce (report_of c).given)

-- answers stand by event, at most one an event
abbrev pub AscendLaw : Type 0
AscendLaw = Of (λ c. AnswersAscend (report_of c).answers)

-- and none is ESME_RSYSERR
abbrev pub NoErrorLaw : Type 0
NoErrorLaw = Of (λ c. NoSystemError (report_of c))

-- ---- over the reports of all parts of a script

-- `after n` is the report that the first n events lead to
abbrev pub AreReports : Script → (ℕ → Report) → Type 0
AreReports script after = ReportsOf script.setup script.events after

abbrev pub Over : (Script → (ℕ → Report) → Type 0) → Type 0
Over Claim = (script : Script) (after : ℕ → Report) → AreTyped script.events → AreReports script after → Claim script after

-- a script that plays has them
abbrev pub ReportsLaw : Type 0
ReportsLaw =
    (script : Script) (report : Report) → AreTyped script.events → play_of script.setup script.events ≡ Ok report
    → (after : ℕ → Report) × (AreReports script after × (after (length script.events) ≡ report))

-- each event leaves lines, final states and receipts
abbrev pub EachStaysLaw : Type 0
EachStaysLaw = Over (λ script after. (n : ℕ) → n < length script.events → Stays (after n) (after (suc n)))

-- an answer with a number names the message of that event
abbrev pub NamedLaw : Type 0
NamedLaw =
    Over (λ script after. (a : Answer) (id : ℕ) → Among a (after (length script.events)).answers → a.answered ≡ Accepted id
    → NamesMessage script.events after a.event id)

-- a query_sm finds what the table says
abbrev pub QueriesLaw : Type 0
QueriesLaw = Over (λ script after. QueriesAreTrue script.events after)

-- a cancel_sm deletes the message that it names, or nothing
abbrev pub CancelsLaw : Type 0
CancelsLaw = Over (λ script after. CancelsAreTrue script.events after)

-- nothing but a cancellation deletes a message
abbrev pub DeletedLaw : Type 0
DeletedLaw = Over (λ script after. OnlyCancelsDelete script.events after)

-- each message is of one event
abbrev pub OfEventsLaw : Type 0
OfEventsLaw = Over (λ script after. (m : ReportedMessage) → Among m (after (length script.events)).table → IsOfEvent script.setup script.events after m)

-- ---- while each frame that is handed over is timely

abbrev pub InTime : (Script → (ℕ → Report) → Type 0) → Type 0
InTime Claim =
    (script : Script) (after : ℕ → Report) → AreTyped script.events → AreReports script after → AllTimely 1 script.events (beginning script.setup)
    → Claim script after

-- what the table calls delivered was accepted, each part exactly once
abbrev pub DeliveredLinesLaw : Type 0
DeliveredLinesLaw =
    InTime (λ script after.
    (m : ReportedMessage) → Among m (after (length script.events)).table → m.state ≡ Final Delivered
    → WasDelivered script.setup script.events after (after (length script.events)) m)

-- what a receipt or status report calls delivered, too
abbrev pub ToldLaw : Type 0
ToldLaw =
    InTime (λ script after.
    (x : ReceiptRow) → Among x (after (length script.events)).receipts → x.state ≡ Delivered
    → (m : ReportedMessage)
    × (Among m (after (length script.events)).table × (m.id ≡ x.id) × WasDelivered script.setup script.events after (after (length script.events)) m))

-- what a handset accepted as a DELIVER is a part of a message to it
abbrev pub AcceptedPartsLaw : Type 0
AcceptedPartsLaw =
    InTime (λ script after.
    (a : AcceptedRow) → Among a (after (length script.events)).accepted → is_deliver a.tpdu ≡ true
    → IsPartOf script.setup script.events after (after (length script.events)) a)

-- no part of any message was accepted twice
abbrev pub NoneTwiceLaw : Type 0
NoneTwiceLaw =
    (script : Script) (some others : List WorldEvent) (c d : PlayState) → IsScript script some others → LeadsOn script some c d
    → AllTimely 1 some (beginning script.setup) → NoneTwice (compared_lines (report_of c).accepted)

-- ---- while originators use references only when they are fresh, too

-- what was joined is whole, and joined once
abbrev pub JoinedPiecesLaw : Type 0
JoinedPiecesLaw =
    (script : Script) (after : ℕ → Report) → AreTyped script.events → AreReports script after → AllTimely 1 script.events (beginning script.setup)
    → AllFresh 1 script.events (beginning script.setup) → EachJoined script.setup script.events after (after (length script.events))

-- ---- all of it

-- each entry that counts as sent is a message
abbrev pub AllSent : Script → (ℕ → Report) → Type 0
AllSent script after =
    (x : OutboxRow) → Among x (after (length script.events)).outboxes → x.state ≡ Sent
    → IsSent script.setup script.events after (after (length script.events)) x

abbrev pub AllSentLaw : Type 0
AllSentLaw = InTime (λ script after. AllSent script after)

-- The reports of all parts of a script have the plain headline, with what is decided of its premises.
abbrev pub PlainLaw : Type 0
PlainLaw =
    (script : Script) (after : ℕ → Report) (broken : Option Broken) → AreTyped script.events → AreReports script after
    → premises_of script.setup script.events ≡ Ok broken → PlainHeadline script.setup script.events after broken

-- So has each report that a script leads to.
abbrev pub PlainReportLaw : Type 0
PlainReportLaw =
    (setup : Setup) (events : List WorldEvent) (report : Report) → AreTyped events → play_of setup events ≡ Ok report → HasPlainHeadline setup events report
