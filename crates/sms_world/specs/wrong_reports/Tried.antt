-- For each claim a report that does not have it, and reports that do.
use Rattle.std.specs.Prelude.{[], ◌∷◌, None}
use Rattle.sms_world.specs.headline.PlainHeadline.{AnswersAreTrue, Deliveries, Messages, PlainHeadline, Receipts}
use Rattle.sms_world.specs.headline.PlainReport.{AreAscending, CancelsAreTrue, EachJoined, GivenOnce, HaveNoneInCommon, IsSent, NoSystemError}
use Rattle.sms_world.specs.headline.PlainReport.{OnlyCancelsDelete, Piece, QueriesAreTrue, Stays, WasDelivered}
use Rattle.sms_script.specs.declared.event.Act.TheVariants.{Query, Cancel}
use Rattle.sms_script.specs.declared.event.StopPoint.TheVariants.{After, Before}
use Rattle.sms_script.specs.declared.report.rows.EntryState.TheVariants.{Sent}
use Rattle.sms_script.specs.declared.report.answers.Answered.TheVariants.{Found, Status}
use Rattle.sms_centre_rows.specs.declared.report_lines.MessageState.TheVariants.{Enroute, Final}
use Rattle.sms_base.specs.declared.final_state.FinalState.TheVariants.{Delivered, Expired, Deleted}
use Rattle.smpp_pdu.specs.declared.status.CommandStatus.TheVariants.{ESME_RCANCELFAIL, ESME_ROK}
use Rattle.sms_world.specs.wrong_reports.Literals.{accepted_of_nobody, accepted_twice, asked_then, asking, both, both_one, both_parts, both_reports}
use Rattle.sms_world.specs.wrong_reports.Literals.{deleted_by_nobody, ended, events, given_twice, good, half, half_reports, handset, id_one, joined_of_nothing}
use Rattle.sms_world.specs.wrong_reports.Literals.{joined_twice, line, long_events, name, never_accepted, nothing, of_nobody, other_text, owner_events}
use Rattle.sms_world.specs.wrong_reports.Literals.{owner_line, owner_reports, owner_setup, piece_events, piece_reports, receipt_of_expired, reports}
use Rattle.sms_world.specs.wrong_reports.Literals.{sent_of_nobody, setup, stopped, stopping, submits, system_error, taken, twice_answered, two_lines}
use Rattle.sms_world.specs.wrong_reports.Literals.{two_receipts, unlisted, writer}

abbrev pub GoodLaw : Type 0
GoodLaw = PlainHeadline setup events (reports good) None

-- ---- whatever happens

abbrev pub FinalLaw : Type 0
FinalLaw = ¬ Stays good (ended (Final Expired) [] [])

-- a line that is gone, and a receipt that is gone
abbrev pub GoneLaw : Type 0
GoneLaw = ¬ Stays taken nothing

abbrev pub ForgottenLaw : Type 0
ForgottenLaw = ¬ Stays good (ended (Final Delivered) good.accepted [])

abbrev pub ReceiptLaw : Type 0
ReceiptLaw = ¬ Receipts receipt_of_expired

abbrev pub ReceiptsLaw : Type 0
ReceiptsLaw = ¬ Receipts two_receipts

abbrev pub NumberLaw : Type 0
NumberLaw = ¬ AnswersAreTrue (submits ∷ submits ∷ []) both_reports both_one

-- answered DELIVRD of a message that is under way
abbrev pub QueryLaw : Type 0
QueryLaw = ¬ QueriesAreTrue (asking (Query name id_one)) (asked_then (Found (Final Delivered)) (line Enroute ∷ []))

-- answered ESME_ROK, and nothing is deleted
abbrev pub CancelLaw : Type 0
CancelLaw = ¬ CancelsAreTrue (asking (Cancel name id_one)) (asked_then (Status ESME_ROK) (line Enroute ∷ []))

-- answered otherwise, and the message is deleted
abbrev pub RefusedCancelLaw : Type 0
RefusedCancelLaw = ¬ CancelsAreTrue (asking (Cancel name id_one)) (asked_then (Status ESME_RCANCELFAIL) (line (Final Deleted) ∷ []))

-- ---- while the premises hold

abbrev pub TwiceLaw : Type 0
TwiceLaw = ¬ Deliveries setup events (reports accepted_twice) accepted_twice

abbrev pub NeverLaw : Type 0
NeverLaw = ¬ Deliveries setup events (reports never_accepted) never_accepted

-- a receipt says DELIVRD of a message that is EXPIRED and was never accepted
abbrev pub ToldLaw : Type 0
ToldLaw = ¬ Deliveries setup events (reports receipt_of_expired) receipt_of_expired

abbrev pub OtherTextLaw : Type 0
OtherTextLaw = ¬ Deliveries setup events (reports other_text) other_text

abbrev pub JoinedLaw : Type 0
JoinedLaw = ¬ EachJoined setup events (reports joined_of_nothing) joined_of_nothing

abbrev pub LineLaw : Type 0
LineLaw = ¬ AreAscending two_lines.table

abbrev pub OriginLaw : Type 0
OriginLaw = ¬ Messages setup events of_nobody (of_nobody 3)

abbrev pub DeletedLaw : Type 0
DeletedLaw = ¬ OnlyCancelsDelete events deleted_by_nobody

abbrev pub GivenLaw : Type 0
GivenLaw = ¬ GivenOnce given_twice.given

abbrev pub SystemErrorLaw : Type 0
SystemErrorLaw = ¬ NoSystemError system_error

abbrev pub SentLaw : Type 0
SentLaw = ¬ Deliveries setup events (reports sent_of_nobody) sent_of_nobody

abbrev pub AcceptedLaw : Type 0
AcceptedLaw = ¬ Deliveries setup events (reports accepted_of_nobody) accepted_of_nobody

-- ---- a query and a cancellation that are true

abbrev pub TrueQueryLaw : Type 0
TrueQueryLaw = QueriesAreTrue (asking (Query name id_one)) (asked_then (Found Enroute) (line Enroute ∷ []))

abbrev pub TrueCancelLaw : Type 0
TrueCancelLaw = CancelsAreTrue (asking (Cancel name id_one)) (asked_then (Status ESME_ROK) (line (Final Deleted) ∷ []))

-- ---- a submission that was stopped

-- stopped before the store call, it makes no message
abbrev pub StoppedLaw : Type 0
StoppedLaw = ¬ Messages setup (stopping Before) stopped (stopped 1)

-- stopped behind it, it makes one, and is not answered
abbrev pub TrueStopLaw : Type 0
TrueStopLaw = Messages setup (stopping After) stopped (stopped 1)

-- one that was not stopped is answered
abbrev pub UnansweredLaw : Type 0
UnansweredLaw = ¬ Messages setup (submits ∷ []) stopped (stopped 1)

-- ---- more

abbrev pub StatusLaw : Type 0
StatusLaw = ¬ Receipts unlisted

abbrev pub AscendLaw : Type 0
AscendLaw = ¬ AnswersAreTrue events (reports twice_answered) twice_answered

-- a text of two parts is DELIVRD, and its second part was not accepted
abbrev pub SplitLaw : Type 0
SplitLaw = ¬ Deliveries setup long_events half_reports half

-- both parts of one were accepted
abbrev pub TrueSplitLaw : Type 0
TrueSplitLaw = WasDelivered setup long_events both_parts both (line (Final Delivered))

-- one part in two joined texts
abbrev pub CommonLaw : Type 0
CommonLaw = (x : Piece) → ¬ HaveNoneInCommon ((x ∷ []) ∷ (x ∷ []) ∷ [])

-- the two parts were joined, and then joined again
abbrev pub JoinedTwiceLaw : Type 0
JoinedTwiceLaw = ¬ EachJoined setup piece_events piece_reports joined_twice

-- ---- the text of an owner

abbrev pub TrueOwnerLaw : Type 0
TrueOwnerLaw = Messages owner_setup owner_events (owner_reports 1 (owner_line handset)) (owner_reports 1 (owner_line handset) 2)

-- its entry counts as sent
abbrev pub TrueSentLaw : Type 0
TrueSentLaw =
    IsSent owner_setup owner_events (owner_reports 1 (owner_line handset)) (owner_reports 1 (owner_line handset) 2)
    (record { handset = writer; entry = 1; state = Sent })

-- it is a message to another handset than he wrote it to
abbrev pub OwnerLaw : Type 0
OwnerLaw = ¬ Messages owner_setup owner_events (owner_reports 1 (owner_line writer)) (owner_reports 1 (owner_line writer) 2)

-- its frame is of a second entry, and the text has one part
abbrev pub OtherEntryLaw : Type 0
OtherEntryLaw = ¬ Messages owner_setup owner_events (owner_reports 2 (owner_line handset)) (owner_reports 2 (owner_line handset) 2)
