-- For each field of `Headline` that speaks of one play state or one report, such as do not have it.
use Rattle.std.specs.Prelude.{[], ◌∷◌, None, false}
use Rattle.sms_base.specs.declared.final_state.FinalState.TheVariants.{Delivered, Expired}
use Rattle.sms_centre_rows.specs.declared.messages.message.MessageRow.{MessageRow}
use Rattle.sms_centre_rows.specs.declared.messages.part.PartRow.{PartRow}
use Rattle.sms_play.specs.answers.AnswerLaws.{HaveNoSystemError}
use Rattle.sms_centre_rows.specs.declared.report_lines.MessageState.TheVariants.{Enroute, Final}
use Rattle.sms_world.specs.headline.Claims.{AreOnce, ConfirmedAreThere, DeliveredOnce, FinalStays, GivenOnce, HeldDiffer, JoinedWhole, LinesStay, PartsOnce}
use Rattle.sms_world.specs.headline.Claims.{ReceiptsHaveState, ReceiptsStay, SentSubmitted, StatusReportsAreListed}
use Rattle.sms_world.specs.headline.Headline.{Headline}
use Rattle.sms_world.specs.headline.Origins.{AreFromEvents, LinesDelivered, ReportedDelivered}
use Rattle.sms_world.specs.headline.PlainReport.{AreAscending}
use Rattle.sms_world.specs.headline.ReportClaims.{StatusReportsSay}
use Rattle.sms_world.specs.headline.SplitClaims.{SplitsJoined}
use Rattle.sms_world.specs.wrong_reports.Literals.{accepted, answer, ended, given_twice, good, handset, hello_octets, joined_row, line, nothing, other_octets}
use Rattle.sms_world.specs.wrong_reports.Literals.{receipt_of_expired, system_error, taken, two_lines, two_receipts, writer}
use Rattle.sms_world.specs.wrong_plays.Plays.{delivered, frame_to, from_application, from_writer, joined, part_one, part_two, progress, reporting, sent, setup}
use Rattle.sms_world.specs.wrong_plays.Plays.{with_rows}

-- ---- a report that its script does not lead to: it has a message that nobody submitted

abbrev pub NobodysLaw : Type 0
NobodysLaw = ¬ Headline setup [] (record nothing { table = line Enroute ∷ [] })

-- ---- final_states

abbrev pub LinesLaw : Type 0
LinesLaw = ¬ AreAscending two_lines.table

abbrev pub LineGoneLaw : Type 0
LineGoneLaw = ¬ LinesStay taken nothing

abbrev pub OtherEndLaw : Type 0
OtherEndLaw = ¬ FinalStays good (ended (Final Expired) good.accepted good.receipts)

abbrev pub ReceiptGoneLaw : Type 0
ReceiptGoneLaw = ¬ ReceiptsStay good (ended (Final Delivered) good.accepted [])

abbrev pub OtherStateLaw : Type 0
OtherStateLaw = ¬ ReceiptsHaveState receipt_of_expired

abbrev pub TwoReceiptsLaw : Type 0
TwoReceiptsLaw = ¬ AreOnce two_receipts.receipts

-- ---- references

abbrev pub pending : MessageRow → MessageRow
pending m = record m { state = None; done = None }

-- its reference is 0, and it is not done
abbrev pub open_part : PartRow → PartRow
open_part p = record p { reference = 0; progress = record progress { is_done = false } }

-- two parts that are under way hold one reference at one handset
abbrev pub HeldTwiceLaw : Type 0
HeldTwiceLaw = ¬ HeldDiffer (with_rows (pending from_application ∷ pending from_writer ∷ []) (open_part part_one ∷ open_part part_two ∷ []) [])

abbrev pub GivenTwiceLaw : Type 0
GivenTwiceLaw = ¬ GivenOnce given_twice.given

-- ---- confirmed

abbrev pub NotThereLaw : Type 0
NotThereLaw = ¬ ConfirmedAreThere (record nothing { answers = answer ∷ [] })

-- the frame is a STATUS-REPORT, and none is listed
abbrev pub NotListedLaw : Type 0
NotListedLaw = ¬ StatusReportsAreListed (record nothing { bag = frame_to writer ∷ [] })

abbrev pub SystemErrorLaw : Type 0
SystemErrorLaw = ¬ HaveNoSystemError system_error.answers

-- ---- told

abbrev pub RightToldLaw : Type 0
RightToldLaw = StatusReportsSay (reporting (from_application ∷ from_writer ∷ []) writer)

-- it goes to the recipient
abbrev pub ToRecipientLaw : Type 0
ToRecipientLaw = ¬ StatusReportsSay (reporting (from_application ∷ from_writer ∷ []) handset)

-- its message is gone
abbrev pub ToldOfNoneLaw : Type 0
ToldOfNoneLaw = ¬ StatusReportsSay (reporting (from_application ∷ []) writer)

-- its message has not ended
abbrev pub ToldEarlyLaw : Type 0
ToldEarlyLaw = ¬ StatusReportsSay (reporting (pending from_writer ∷ []) writer)

-- ---- delivered

abbrev pub NeverAcceptedLaw : Type 0
NeverAcceptedLaw = ¬ DeliveredOnce (delivered [])

abbrev pub AcceptedTwiceLaw : Type 0
AcceptedTwiceLaw = ¬ DeliveredOnce (delivered (accepted hello_octets ∷ accepted hello_octets ∷ []))

abbrev pub OtherTextLaw : Type 0
OtherTextLaw = ¬ DeliveredOnce (delivered (accepted other_octets ∷ []))

-- its part was given no reference
abbrev pub NotGivenLaw : Type 0
NotGivenLaw = ¬ DeliveredOnce (record (delivered (accepted hello_octets ∷ [])) { given = [] })

abbrev pub PartTwiceLaw : Type 0
PartTwiceLaw = ¬ PartsOnce (delivered (accepted hello_octets ∷ accepted hello_octets ∷ []))

-- no event submitted it
abbrev pub LineOfNoneLaw : Type 0
LineOfNoneLaw = ¬ LinesDelivered setup [] (delivered (accepted hello_octets ∷ []))

abbrev pub ReceiptOfNoneLaw : Type 0
ReceiptOfNoneLaw = ¬ ReportedDelivered setup [] (delivered (accepted hello_octets ∷ []))

-- ---- origins

abbrev pub FromNoneLaw : Type 0
FromNoneLaw = ¬ AreFromEvents setup [] (delivered [])

-- ---- sent

abbrev pub SentOfNoneLaw : Type 0
SentOfNoneLaw = ¬ SentSubmitted (sent [] [])

-- the message goes to another handset than the entry
abbrev pub SentElsewhereLaw : Type 0
SentElsewhereLaw = ¬ SentSubmitted (sent (record from_writer { handset = writer } ∷ []) (part_two ∷ []))

-- ---- joined

-- nothing was accepted
abbrev pub JoinedOfNoneLaw : Type 0
JoinedOfNoneLaw = ¬ JoinedWhole (joined (joined_row ∷ []))

abbrev pub SplitOfNoneLaw : Type 0
SplitOfNoneLaw = ¬ SplitsJoined (joined (joined_row ∷ []))
