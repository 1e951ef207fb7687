-- What an event of the centre leads to. Its rows change, and its frames are sent. Each receipt that is sent to an application
-- is accepted there at once.
use Rattle.std.specs.Prelude.{ℕ, List, [], ◌∷◌, ◌++◌, length, zero, suc, Option, Some, None, true}
use Rattle.sms_base.specs.declared.final_state.FinalState.{FinalState}
use Rattle.sms_base.specs.declared.holder.Holder.TheVariants.{Part, Report}
use Rattle.smpp_pdu.specs.declared.status.CommandStatus.TheVariants.{ESME_ROK}
use Rattle.sms_centre_spec.specs.declared.answer.CentreAnswer.{CentreAnswer}
use Rattle.sms_centre_spec.specs.declared.answer.CentreAnswer.TheVariants.{Submitted, Queried, Cancelled, Refused}
use Rattle.sms_centre_spec.specs.declared.event.CentreEvent.{CentreEvent}
use Rattle.sms_centre_spec.specs.declared.event.CentreEvent.TheVariants.{DeliverAnswered}
use Rattle.sms_centre_rows.specs.declared.messages.message.MessageRow.{MessageRow}
use Rattle.sms_centre_rows.specs.declared.messages.part.PartRow.{PartRow}
use Rattle.sms_centre_rows.specs.messages.Messages.{message_at}
use Rattle.sms_centre_rows.specs.declared.reports.delivery.Delivery.{Delivery}
use Rattle.sms_centre_rows.specs.declared.reports.report.ReportKind.{ReportKind}
use Rattle.sms_centre_rows.specs.declared.reports.report.ReportKind.TheVariants.{Receipt, Status as StatusReport, Unsent}
use Rattle.sms_centre_rows.specs.declared.reports.report.ReportRow.{ReportRow}
use Rattle.sms_centre_rows.specs.declared.waiting.handset_link.Sent.{Sent}
use Rattle.sms_centre_rows.specs.declared.waiting.revision.Revision.{Revision}
use Rattle.sms_centre_rows.specs.declared.waiting.revision.Revision.TheVariants.{Put, Amend, Remove}
use Rattle.sms_script.specs.declared.report.answers.Answered.{Answered}
use Rattle.sms_script.specs.declared.report.answers.Answered.TheVariants.{Accepted, Found, Status}
use Rattle.sms_centre_rows.specs.declared.report_lines.MessageState.{MessageState}
use Rattle.sms_centre_rows.specs.declared.report_lines.MessageState.TheVariants.{Enroute, Final}
use Rattle.sms_script.specs.declared.report.rows.Direction.TheVariants.{Down}
use Rattle.sms_script.specs.declared.report.rows.FrameRow.{FrameRow}
use Rattle.sms_script.specs.declared.report.rows.GivenRow.{GivenRow}
use Rattle.sms_centre_spec.specs.CentreEvent.{happened}
use Rattle.sms_centre_spec.specs.Draft.{Draft, core_of, changes_in, messages_in}
use Rattle.sms_play.specs.PlayState.{PlayState, sent, answer}

-- ---- the references that the changes give: a part's and a status report's row is put once, at its giving

abbrev pub destination_in : Option MessageRow → List ℕ
destination_in None = []
destination_in (Some m) = m.handset

abbrev pub source_in : Option MessageRow → List ℕ
source_in None = []
source_in (Some m) = m.source.digits

abbrev pub parts_given : ℕ → List MessageRow → List (Revision PartRow) → List GivenRow
parts_given moment messages [] = []
parts_given moment messages (Put p ∷ changes) =
    record { handset = destination_in (message_at p.id messages); direction = Down; reference = p.reference; holder = Part p.id p.number; moment = moment }
    ∷ parts_given moment messages changes
parts_given moment messages (Amend key progress ∷ changes) = parts_given moment messages changes
parts_given moment messages (Remove key ∷ changes) = parts_given moment messages changes

abbrev pub report_given : ℕ → ℕ → List ℕ → ReportKind → List GivenRow
report_given moment id handset Receipt = []
report_given moment id handset (StatusReport reference tpdu) =
    record { handset = handset; direction = Down; reference = reference; holder = Report id; moment = moment } ∷ []
report_given moment id handset Unsent = []

abbrev pub reports_given : ℕ → List MessageRow → List (Revision ReportRow) → List GivenRow
reports_given moment messages [] = []
reports_given moment messages (Put r ∷ changes) =
    report_given moment r.id (source_in (message_at r.id messages)) r.kind ++ reports_given moment messages changes
reports_given moment messages (Amend key progress ∷ changes) = reports_given moment messages changes
reports_given moment messages (Remove key ∷ changes) = reports_given moment messages changes

abbrev pub given_by : Draft → List GivenRow
given_by d =
    parts_given d.store.moment (messages_in d.store) (changes_in d.store).parts
    ++ reports_given d.store.moment (messages_in d.store) (changes_in d.store).reports

-- ---- the changes are committed, and the frames are sent

abbrev pub committed : Draft → PlayState → PlayState
committed d c = record c { centre = core_of d; given = c.given ++ given_by d }

abbrev pub all_sent : List Sent → List FrameRow → List FrameRow
all_sent [] bag = bag
all_sent (s ∷ ss) bag = all_sent ss (sent Down s.handset s.frame bag)

abbrev pub done : Draft → PlayState → PlayState
done d c = record (committed d c) { bag = all_sent d.links.frames c.bag }

-- ---- receipts: an application accepts each at once, which may release others. A receipt is accepted once, so no more are
-- accepted than there are.

abbrev pub accepted_after : Draft → ℕ → List Delivery → PlayState → PlayState
accepted_after d zero waiting c = c
accepted_after d (suc most) [] c = c
accepted_after d (suc most) (x ∷ waiting) c =
    let e : Draft = happened (DeliverAnswered x.session x.id true) c.centre in
    accepted_after e most (waiting ++ e.bindings.deliveries) (done e c)

abbrev pub whole : Draft → PlayState → PlayState
whole d c = accepted_after d (length (core_of d).rows.reports) d.bindings.deliveries (done d c)

-- ---- answers to requests

abbrev pub state_of : Option FinalState → MessageState
state_of None = Enroute
state_of (Some state) = Final state

abbrev pub answered_as : CentreAnswer → Answered
answered_as (Submitted id) = Accepted id
answered_as (Queried id state moment) = Found (state_of state)
answered_as Cancelled = Status ESME_ROK
answered_as (Refused status) = Status status

abbrev pub with_answer : ℕ → Option CentreAnswer → PlayState → PlayState
with_answer event None c = c
with_answer event (Some a) c = answer event (answered_as a) c

-- the centre meets an event, and nothing stops it
abbrev pub centre_meets : ℕ → CentreEvent → PlayState → PlayState
centre_meets event e c = with_answer event (happened e c.centre).answer (whole (happened e c.centre) c)
