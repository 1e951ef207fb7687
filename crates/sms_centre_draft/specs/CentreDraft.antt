-- A centre in the middle of an event, as memory has it, and which of the definition's drafts it represents. Each half of the draft
-- is represented by a part of its own.
use Rattle.std.specs.Prelude.{◌≡◌, ℕ, ◌≤◌, List, Option}
use Rattle.sms_base.specs.Among.{Among}
use Rattle.sms_centre_reports.specs.open_reports.OpenReportsDraft.{OpenReportsDraftOf as ReportsOf, DraftRepresents}
use Rattle.sms_centre_messages.specs.message_index.MessageIndex.{MessageIndexDraftOf as MessagesOf, DraftRepresents as RepresentsMessages}
use Rattle.sms_centre_rows.specs.declared.messages.part.PartRow.{PartRow}
use Rattle.sms_centre_rows.specs.reports.Receipts.{Bindings}
use Rattle.sms_centre_queue.specs.queues.Queues.{DeliveryQueuesDraftOf as QueuesOf}
use Rattle.sms_centre_queue.specs.queues.Representing.{DraftRepresents as RepresentsQueues}
use Rattle.sms_centre_rows.specs.declared.waiting.queued_part.QueuedPart.{QueuedPart}
use Rattle.sms_centre_spec.specs.declared.answer.CentreAnswer.{CentreAnswer}
use Rattle.sms_centre_spec.specs.declared.setup.Setup.{Setup}
use Rattle.sms_centre_spec.specs.Draft.{Draft, Store, messages_in, parts_in, waiting_in}
use Rattle.sms_centre_spec.specs.Consistent.{IsConsistent}

pub record CentreDraftOf : Type 0 where
  pub setup : Setup
  -- of the event
  pub moment : ℕ
  -- messages, their parts and priorities
  pub messages : MessagesOf
  -- handsets, references, links, and what waits
  pub queues : QueuesOf
  pub reports : ReportsOf
  pub bindings : Bindings
  pub answer : Option CentreAnswer

-- what waits for each handset
abbrev pub all_waiting : Store → List ℕ → List QueuedPart
all_waiting s number = waiting_in number s

abbrev pub AreFew : List PartRow → Type 0
AreFew parts = (p : PartRow) → Among p parts → p.number ≤ 20

-- It is that draft, which is consistent, as every stage of an event leaves it.
pub record Represents (d : Draft) (w : CentreDraftOf) : Type 0 where
  pub consistent : IsConsistent d.store
  -- a message has at most 20 parts
  pub few : AreFew (parts_in d.store)
  pub setup : w.setup ≡ d.store.setup
  pub moment : w.moment ≡ d.store.moment
  pub messages : RepresentsMessages w.messages d.store.messages
  pub queues : RepresentsQueues d.store.allocations d.links (all_waiting d.store) w.queues
  pub reports : DraftRepresents (messages_in d.store) w.reports d.store.reports
  pub bindings : w.bindings ≡ d.bindings
  pub answer : w.answer ≡ d.answer
