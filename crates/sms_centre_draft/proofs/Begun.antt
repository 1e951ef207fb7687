-- An event begins.
use Rattle.std.proofs.Common.{◌≡◌, ℕ, [], None, refl, ◌∙◌, ap}
use Rattle.sms_centre_messages.specs.message_index.MessageIndex.{MessageIndexOf, MessageIndexDraftOf as MessagesOf, DraftRepresents as RepresentsMessages, opened}
use Rattle.sms_centre_reports.specs.open_reports.OpenReports.{OpenReportsOf}
use Rattle.sms_centre_reports.specs.open_reports.OpenReportsDraft.{OpenReportsDraftOf as ReportsNow, DraftRepresents}
use Rattle.sms_centre_rows.specs.reports.Receipts.{Bindings, Session}
use Rattle.sms_centre_queue.specs.queues.Queues.{DeliveryQueuesDraftOf as QueuesNow, DeliveryQueuesOf}
use Rattle.sms_centre_queue.specs.queues.Representing.{DraftRepresents as RepresentsQueues}
use Rattle.sms_centre_rows.specs.waiting.Revisions.{unrevised}
use Rattle.sms_centre_spec.specs.declared.setup.Setup.{Setup}
use Rattle.sms_centre_spec.specs.Draft.{Core, draft_of}
use Rattle.sms_centre_spec.proofs.SoundStores.{store_sound}
use Rattle.std.specs.Prelude.{List}
use Rattle.sms_centre_draft.specs.Beginning.{IsCentre}
use Rattle.sms_centre_draft.specs.CentreDraft.{Represents, all_waiting}

pub begun_represented : (c : Core) (setup : Setup) (moment : ℕ) (kept : MessageIndexOf) (base : DeliveryQueuesOf) (known : OpenReportsOf) (sessions : List Session) (messages : MessagesOf) (queues : QueuesNow) (reports : ReportsNow) (bindings : Bindings)
    → IsCentre c setup moment kept base known sessions
    → RepresentsMessages messages (opened c.rows.messages c.rows.parts c.rows.priorities) → RepresentsQueues (draft_of c).store.allocations (draft_of c).links (all_waiting (draft_of c).store) queues → DraftRepresents c.rows.messages reports (unrevised c.rows.reports) → bindings ≡ record { sessions = sessions; deliveries = [] }
    → Represents (draft_of c) (record { setup = setup; moment = moment; messages = messages; queues = queues; reports = reports; bindings = bindings; answer = None })
begun_represented c setup moment kept base known sessions messages queues reports bindings is shown placed tells seated = record {
  consistent = (store_sound c.rows c.moment is.sound.rows is.sound.now is.sound.moment).consistent;
  few = λ p among. (is.sound.rows.messages.each_part p among).few;
  setup = is.setup_is;
  moment = is.moment_is;
  messages = shown;
  queues = placed;
  reports = tells;
  bindings = seated ∙ ap (λ (ss : List Session). record { sessions = ss; deliveries = [] }) is.sessions_are;
  answer = refl;
}
