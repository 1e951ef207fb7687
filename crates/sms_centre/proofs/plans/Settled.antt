-- What is settled is what the event leads to.
use Rattle.std.proofs.Common.{◌≡◌, ℕ, List, Option, sym, ◌∙◌, ap, subst}
use Rattle.sms_rows.specs.declared.table.change.Change.{Change}
use Rattle.sms_centre_messages.specs.references.Moves.{ReferenceIndexReserveOf as ReferenceIndexReserve}
use Rattle.sms_centre_reports.specs.open_reports.OpenReports.{OpenReportsOf, Represents as RepresentsReports}
use Rattle.sms_centre_messages.specs.declared.message_index.draft.MessageIndexPlan.{MessageIndexPlan}
use Rattle.sms_centre_messages.specs.message_index.Settling.{IsSettled}
use Rattle.sms_centre_rows.specs.declared.messages.bar.BarRow.{BarRow}
use Rattle.sms_centre_rows.specs.declared.reports.delivery.Delivery.{Delivery}
use Rattle.sms_centre_rows.specs.declared.reports.report.ReportRow.{ReportRow}
use Rattle.sms_centre_rows.specs.reports.Receipts.{Bindings, Session}
use Rattle.sms_centre_queue.specs.queues.Plan.{IsSettled as IsSettledQueues, DeliveryQueuesPlanOf}
use Rattle.sms_centre_queue.proofs.queues.RepresentedPlans.{adopted_represents}
use Rattle.sms_centre_rows.specs.declared.waiting.handset.HandsetRow.{HandsetRow}
use Rattle.sms_centre_rows.specs.declared.waiting.handset_link.Sent.{Sent}
use Rattle.sms_centre_rows.specs.declared.waiting.reference.ReferenceRow.{ReferenceRow}
use Rattle.sms_centre_rows.specs.declared.waiting.revision.Revision.{Revision}
use Rattle.sms_centre_rows.specs.declared.messages.message.MessageRow.{MessageRow}
use Rattle.sms_centre_rows.specs.declared.messages.part.PartRow.{PartRow}
use Rattle.sms_centre_rows.specs.declared.messages.priority.PriorityRow.{PriorityRow}
use Rattle.sms_centre_spec.specs.declared.answer.CentreAnswer.{CentreAnswer}
use Rattle.sms_centre_spec.specs.declared.rows.Changes.{Changes}
use Rattle.sms_centre_spec.specs.Draft.{Draft, changes_in, messages_in, reports_in}
use Rattle.sms_centre.specs.plans.EventOutcome.{IsOutcome}
use Rattle.sms_centre_draft.specs.CentreDraft.{Represents, CentreDraftOf, all_waiting}

abbrev rows_changed : List (Change MessageRow) → List (Revision PartRow) → List (Change ReferenceRow) → List (Change HandsetRow) → List (Revision ReportRow) → List (Change PriorityRow) → List (Change BarRow) → Changes
rows_changed m p r h t x b = record { messages = m; parts = p; references = r; handsets = h; reports = t; priorities = x; bars = b }

changes_are : (m n : List (Change MessageRow)) (p q : List (Revision PartRow)) (r s : List (Change ReferenceRow)) (h k : List (Change HandsetRow)) (t u : List (Revision ReportRow)) (x y : List (Change PriorityRow)) (v w : List (Change BarRow))
    → m ≡ n → p ≡ q → r ≡ s → h ≡ k → t ≡ u → x ≡ y → v ≡ w → rows_changed m p r h t x v ≡ rows_changed n q s k u y w
changes_are m n p q r s h k t u x y v w a b c d e f g = cc

module _ (d : Draft) (w : CentreDraftOf) (moment : ℕ) (answer : Option CentreAnswer) (settled : MessageIndexPlan) (queues : DeliveryQueuesPlanOf) (references : List (Change ReferenceRow)) (handsets : List (Change HandsetRow)) (frames : List Sent) (reports : OpenReportsOf) (changed : List (Revision ReportRow))
    (sessions : List Session) (deliveries : List Delivery) (reference_index : ReferenceIndexReserve) (bars : List (Change BarRow)) where
  pub planned_is : Represents d w → moment ≡ w.moment → answer ≡ w.answer → IsSettled d.store.messages settled → IsSettledQueues w.queues queues → references ≡ w.queues.references → handsets ≡ w.queues.handsets → frames ≡ w.queues.frames → reports ≡ w.reports.current → changed ≡ w.reports.changes
      → sessions ≡ w.bindings.sessions → deliveries ≡ w.bindings.deliveries → bars ≡ (changes_in d.store).bars
      → IsOutcome d (record {
        changes = rows_changed settled.messages settled.parts references handsets changed settled.priorities bars;
        outputs = record { frames = frames; answer = answer; deliveries = deliveries };
        next_state = record { moment = moment; messages = settled.reserve; reference_index = reference_index; queues = queues; reports = reports; sessions = sessions };
      })
  planned_is represents now answered is placed given mentioned sent known noted seated outputs barred =
      let of = changes_in d.store in record {
        changes = changes_are settled.messages of.messages settled.parts of.parts references of.references handsets of.handsets changed of.reports settled.priorities of.priorities bars of.bars
            is.messages is.parts (given ∙ represents.queues.references) (mentioned ∙ represents.queues.handsets) (noted ∙ represents.reports.changes) is.priorities barred;
        outputs = record {
          frames = sent ∙ represents.queues.frames;
          answer = answered ∙ represents.answer;
          deliveries = outputs ∙ ap (λ (k : Bindings). k.deliveries) represents.bindings;
        };
        next_state = record {
          moment = now ∙ represents.moment;
          messages = is.matches;
          queues = λ new adopted. adopted_represents d.store.allocations d.links (all_waiting d.store) w.queues queues new represents.queues placed adopted;
          reports = subst (λ (k : OpenReportsOf). RepresentsReports (messages_in d.store) k (reports_in d.store)) (sym known) represents.reports.current;
          sessions = seated ∙ ap (λ (k : Bindings). k.sessions) represents.bindings;
        };
      }
