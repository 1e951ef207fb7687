-- What is in memory after an event, ready made.
use Rattle.std.specs.Prelude.{ℕ, List}
use Rattle.sms_centre_messages.specs.references.Moves.{ReferenceIndexReserveOf as ReferenceIndexReserve}
use Rattle.sms_centre_reports.specs.open_reports.OpenReports.{OpenReportsOf}
use Rattle.sms_centre_messages.specs.message_index.MessageIndex.{MessageIndexReserveOf as MessagesReserve}
use Rattle.sms_centre_rows.specs.reports.Receipts.{Session}
use Rattle.sms_centre_queue.specs.queues.Plan.{DeliveryQueuesPlanOf}

pub record NextStateOf : Type 0 where
  pub moment : ℕ
  -- memory for the messages that change, and the parts in memory as they change
  pub messages : MessagesReserve
  -- memory for what they lay claim to
  pub reference_index : ReferenceIndexReserve
  pub queues : DeliveryQueuesPlanOf
  pub reports : OpenReportsOf
  pub sessions : List Session
