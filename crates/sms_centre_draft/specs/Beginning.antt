-- What a centre keeps in memory between two events, and what it represents of the definition's.
use Rattle.std.specs.Prelude.{◌≡◌, ℕ, List}
use Rattle.sms_centre_reports.specs.open_reports.OpenReports.{OpenReportsOf, Represents as RepresentsReports}
use Rattle.sms_centre_messages.specs.message_index.MessageIndex.{Represents, MessageIndexOf}
use Rattle.sms_centre_rows.specs.reports.Receipts.{Session}
use Rattle.sms_centre_queue.specs.queues.Queues.{DeliveryQueuesOf}
use Rattle.sms_centre_queue.specs.queues.Representing.{Represents as StandsOnQueues}
use Rattle.sms_centre_rows.specs.declared.waiting.queued_part.QueuedPart.{QueuedPart}
use Rattle.sms_centre_spec.specs.declared.rows.Rows.{Rows}
use Rattle.sms_centre_spec.specs.declared.setup.Setup.{Setup}
use Rattle.sms_centre_spec.specs.Draft.{Core}
use Rattle.sms_centre_spec.specs.SoundCore.{IsSoundCore}
use Rattle.sms_centre_spec.specs.SoundRows.{all_for}

-- what waits for each handset
abbrev pub all_of : Rows → List ℕ → List QueuedPart
all_of rows number = all_for number rows

-- It is that centre, which is sound.
pub record IsCentre (c : Core) (setup : Setup) (moment : ℕ) (messages : MessageIndexOf) (queues : DeliveryQueuesOf) (reports : OpenReportsOf)
    (sessions : List Session) : Type 0 where
  pub sound : IsSoundCore c
  pub setup_is : setup ≡ c.rows.setup
  pub moment_is : moment ≡ c.moment
  pub messages_are : Represents messages c.rows.messages c.rows.parts
  pub queues_are : StandsOnQueues c.rows.handsets c.rows.references c.links (all_of c.rows) queues
  pub reports_are : RepresentsReports c.rows.messages reports c.rows.reports
  pub sessions_are : sessions ≡ c.sessions
