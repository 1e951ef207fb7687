-- For each field of `IsEventRun` an event that does not go so, and for a message an event that it is not from.
use Rattle.std.specs.Prelude.{ℕ, List, [], ◌∷◌, Some, None, true, false}
use Rattle.smpp_pdu.specs.declared.status.CommandStatus.TheVariants.{ESME_RCANCELFAIL, ESME_ROK}
use Rattle.sms_base.specs.declared.final_state.FinalState.TheVariants.{Deleted, Delivered}
use Rattle.sms_centre_rows.specs.declared.messages.message.MessageRow.{MessageRow}
use Rattle.sms_centre_rows.specs.declared.reports.delivery.Delivery.{Delivery}
use Rattle.sms_centre_rows.specs.declared.reports.report.ReportKind.TheVariants.{Receipt}
use Rattle.sms_centre_rows.specs.reports.Receipts.{Session}
use Rattle.sms_centre_spec.specs.Draft.{Core}
use Rattle.sms_play.specs.PlayState.{PlayState, answer}
use Rattle.sms_script.specs.declared.event.Act.TheVariants.{Query}
use Rattle.sms_script.specs.declared.event.StopPoint.TheVariants.{Before}
use Rattle.sms_script.specs.declared.event.WorldEvent.{WorldEvent}
use Rattle.sms_script.specs.declared.event.WorldEvent.TheVariants.{Stopped, Whole}
use Rattle.sms_script.specs.declared.event.Act.TheVariants.{Submit}
use Rattle.sms_script.specs.declared.report.answers.Answered.TheVariants.{Accepted, Found, Status}
use Rattle.sms_centre_rows.specs.declared.report_lines.MessageState.TheVariants.{Enroute, Final}
use Rattle.sms_world.specs.headline.OneRun.{EntersNext, SubmitsAsAnswered, happening_of}
use Rattle.sms_world.specs.headline.Origins.{IsFrom}
use Rattle.sms_world.specs.headline.ReportClaims.{IsReceiptSent}
use Rattle.sms_world.specs.headline.RequestClaims.{IsCancelled, IsQueried}
use Rattle.sms_world.specs.wrong_plays.Plays.{first, from_application, from_writer, part_one, report_row, setup, with_rows}
use Rattle.sms_world.specs.wrong_plays.Shown.{submission}
use Rattle.sms_world.specs.wrong_plays.Told.{pending}
use Rattle.sms_world.specs.wrong_reports.Literals.{asked, id_one, name, source, submits}
use Rattle.sms_world_model.specs.ScriptRun.{Belongs, Whole as WentWhole, happened}
use Rattle.sms_world_model.specs.World.{Pending, empty}
use Rattle.sms_world_model.specs.WorldStep.{Delete, Run}

-- ---- steps

abbrev pub queries : WorldEvent
queries = Whole (Query name id_one)

-- a query_sm that ends a message
abbrev pub NotOfEventLaw : Type 0
NotOfEventLaw = ¬ Belongs empty (happening_of queries 946684800) WentWhole (Delete 1 ∷ [])

-- a message ends that is not there
abbrev pub ImpossibleStepLaw : Type 0
ImpossibleStepLaw = ¬ Run empty (happened (happening_of submits 946684800) (Delete 1 ∷ []))

-- ---- submits, numbers

-- it was answered with a number, and nothing was taken in
abbrev pub NotTakenInLaw : Type 0
NotTakenInLaw = ¬ SubmitsAsAnswered 1 submits first [] (answer 1 (Accepted 1) first)

-- the first message has number 5
abbrev pub OtherNumberLaw : Type 0
OtherNumberLaw = ¬ EntersNext first empty (record empty { table = record { submission = record submission { id = 5 }; state = Pending [] } ∷ [] })

-- ---- requests

abbrev pub holding : MessageRow → PlayState
holding m = with_rows (m ∷ []) (part_one ∷ []) []

abbrev pub RightQueryLaw : Type 0
RightQueryLaw = IsQueried 1 name id_one (holding from_application) (answer 1 (Found (Final Delivered)) (holding from_application))

-- it finds ENROUTE of a message that is DELIVRD
abbrev pub FalseQueryLaw : Type 0
FalseQueryLaw = ¬ IsQueried 1 name id_one (holding from_application) (answer 1 (Found Enroute) (holding from_application))

-- of a message that the account did not submit
abbrev pub OthersQueryLaw : Type 0
OthersQueryLaw =
    ¬ IsQueried 1 name id_one (holding (record from_writer { id = 1 })) (answer 1 (Found (Final Delivered)) (holding (record from_writer { id = 1 })))

-- it ends the message
abbrev pub QueryEndsLaw : Type 0
QueryEndsLaw = ¬ IsQueried 1 name id_one (holding (pending from_application)) (answer 1 (Found Enroute) (holding from_application))

-- answered ESME_ROK, and the message is as it was
abbrev pub NotCancelledLaw : Type 0
NotCancelledLaw = ¬ IsCancelled 1 name id_one (holding (pending from_application)) (answer 1 (Status ESME_ROK) (holding (pending from_application)))

-- answered ESME_ROK of a message that had ended
abbrev pub CancelledAgainLaw : Type 0
CancelledAgainLaw =
    ¬ IsCancelled 1 name id_one (holding from_application) (answer 1 (Status ESME_ROK) (holding (record from_application { state = Some Deleted })))

-- refused, and the message is gone
abbrev pub CancelledAllTheSameLaw : Type 0
CancelledAllTheSameLaw =
    ¬ IsCancelled 1 name id_one (holding (pending from_application)) (answer 1 (Status ESME_RCANCELFAIL) first)

-- ---- deliver_sm

abbrev pub session : List ℕ → Session
session account = record { number = 0; account = account; receives = true; unanswered = [] }

abbrev pub delivery : Delivery
delivery = record { session = 0; id = 1 }

abbrev pub sending : MessageRow → List Session → Core
sending m sessions =
    record (with_rows (m ∷ []) (part_one ∷ []) (report_row 1 1 Receipt ∷ [])).centre { sessions = sessions }

abbrev pub RightReceiptLaw : Type 0
RightReceiptLaw = IsReceiptSent (sending from_application (session name ∷ [])) delivery

-- of a message that is under way
abbrev pub ReceiptEarlyLaw : Type 0
ReceiptEarlyLaw = ¬ IsReceiptSent (sending (pending from_application) (session name ∷ [])) delivery

-- without a date
abbrev pub ReceiptUndatedLaw : Type 0
ReceiptUndatedLaw = ¬ IsReceiptSent (sending (record from_application { done = None }) (session name ∷ [])) delivery

-- its receipt is not listed
abbrev pub ReceiptNotListedLaw : Type 0
ReceiptNotListedLaw = ¬ IsReceiptSent (record (holding from_application).centre { sessions = session name ∷ [] }) delivery

-- in a session that is not bound
abbrev pub ReceiptUnboundLaw : Type 0
ReceiptUnboundLaw = ¬ IsReceiptSent (sending from_application []) delivery

-- in a session that only transmits
abbrev pub ReceiptToTransmitterLaw : Type 0
ReceiptToTransmitterLaw = ¬ IsReceiptSent (sending from_application (record (session name) { receives = false } ∷ [])) delivery

-- in a session of another account
abbrev pub ReceiptToOtherLaw : Type 0
ReceiptToOtherLaw = ¬ IsReceiptSent (sending from_application (session source ∷ [])) delivery

-- ---- whence a message is

-- a query_sm, and a submission that was stopped before its store call, make none
abbrev pub FromQueryLaw : Type 0
FromQueryLaw = ¬ IsFrom setup (queries ∷ []) from_application (part_one ∷ [])

abbrev pub FromStoppedLaw : Type 0
FromStoppedLaw = ¬ IsFrom setup (Stopped Before (Submit asked) ∷ []) from_application (part_one ∷ [])

-- it says a second more than the centre's moment of its event
abbrev pub OtherMomentLaw : Type 0
OtherMomentLaw = ¬ IsFrom setup (submits ∷ []) (record from_application { submitted = 946684801 }) (part_one ∷ [])

-- it has another number than the next one
abbrev pub OtherIdLaw : Type 0
OtherIdLaw = ¬ IsFrom setup (submits ∷ []) (record from_application { id = 2 }) (part_one ∷ [])
