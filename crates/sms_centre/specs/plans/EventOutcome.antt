-- What an event leads to, as it is in memory, and what of the definition's outcome it is.
use Rattle.std.specs.Prelude.{◌≡◌, length}
use Rattle.sms_centre_messages.specs.references.ReferenceIndex.{ReferenceIndexOf}
use Rattle.sms_centre_messages.specs.references.Moves.{FitsTheReferences as FitsReferenceIndex}
use Rattle.sms_centre_reports.specs.open_reports.OpenReports.{Represents as RepresentsReports}
use Rattle.sms_centre_messages.specs.message_index.MessageIndex.{FitsTheMessages as FitsMessages, MessageIndexOf, Matches}
use Rattle.sms_centre_queue.specs.queues.Plan.{FitsTheQueues as FitsQueues, IsAdopted}
use Rattle.sms_centre_queue.specs.queues.Queues.{DeliveryQueuesOf}
use Rattle.sms_centre_queue.specs.queues.Representing.{Represents}
use Rattle.sms_centre_spec.specs.Draft.{Draft, changes_in, handsets_in, messages_in, parts_in, references_in, reports_in}
use Rattle.sms_centre.specs.plans.NextState.{NextStateOf}
use Rattle.sms_centre.specs.declared.plans.event_outcome.EventOutcome.{EventOutcome}
use Rattle.sms_centre.specs.declared.plans.event_outcome.Outputs.{Outputs}
use Rattle.sms_centre_draft.specs.CentreDraft.{all_waiting}

-- ---- what leaves, and what is in memory after it

-- the frames, the answer and the receipts are those of the draft
pub record AreOutputs (d : Draft) (t : Outputs) : Type 0 where
  pub frames : t.frames ≡ d.links.frames
  pub answer : t.answer ≡ d.answer
  pub deliveries : t.deliveries ≡ d.bindings.deliveries

-- put in, it is what the draft left
pub record IsNextState (d : Draft) (l : NextStateOf) : Type 0 where
  pub moment : l.moment ≡ d.store.moment
  -- the parts in memory become those of the draft
  pub messages : Matches l.messages d.store.messages.parts.base (parts_in d.store)
  pub queues : (new : DeliveryQueuesOf) → IsAdopted l.queues new
      → Represents (handsets_in d.store) (references_in d.store) d.links.all (all_waiting d.store) new
  pub reports : RepresentsReports (messages_in d.store) l.reports (reports_in d.store)
  pub sessions : l.sessions ≡ d.bindings.sessions

-- it is what the event of that draft leads to
pub record IsOutcome (d : Draft) (p : EventOutcome) : Type 0 where
  pub changes : p.changes ≡ changes_in d.store
  pub outputs : AreOutputs d p.outputs
  pub next_state : IsNextState d p.next_state

-- ---- memory

-- it can be put in without taking memory
pub record FitsIn (message_index : MessageIndexOf) (claimed : ReferenceIndexOf) (p : EventOutcome) : Type 0 where
  pub messages : FitsMessages p.next_state.messages (length p.changes.messages) message_index
  pub reference_index : FitsReferenceIndex p.next_state.reference_index (length p.changes.messages) (length p.changes.parts) (length p.changes.bars) claimed
  pub queues : FitsQueues p.next_state.queues
