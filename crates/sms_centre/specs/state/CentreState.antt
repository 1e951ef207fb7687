-- All that a centre keeps in memory between two events, and the centre of the definition that it is.
use Rattle.std.specs.Prelude.{ℕ}
use Rattle.sms_centre_messages.specs.references.ReferenceIndex.{ReferenceIndexOf, Represents as ReferencesRepresent}
use Rattle.sms_centre_reports.specs.open_reports.OpenReports.{OpenReportsOf}
use Rattle.sms_centre_messages.specs.message_index.MessageIndex.{MessageIndexOf as MessagesOf}
use Rattle.sms_centre_reports.specs.report_log.ReportLog.{LogInMemory, Represents as LogRepresents}
use Rattle.sms_centre_rows.specs.reports.Receipts.{Session}
use Rattle.sms_centre_reports.specs.sessions.Awaited.{AreAwaited}
use Rattle.sms_centre_queue.specs.queues.Queues.{DeliveryQueuesOf}
use Rattle.sms_rows.specs.table.Table.{RowsInMemory}
use Rattle.sms_centre_spec.specs.declared.setup.Setup.{Setup}
use Rattle.sms_centre_spec.specs.Draft.{Core}
use Rattle.sms_centre_draft.specs.Beginning.{IsCentre}

pub record CentreStateOf : Type 0 where
  pub setup : Setup
  -- the greatest moment of its ticks and of its rows
  pub moment : ℕ
  -- messages, their parts without TPDUs, and when they expire
  pub messages : MessagesOf
  -- split references and TP-MRs that earlier messages lay claim to
  pub reference_index : ReferenceIndexOf
  -- handsets, their references and links, and what waits for them
  pub queues : DeliveryQueuesOf
  -- the reports that are open
  pub reports : OpenReportsOf
  -- all reports that were made
  pub log : LogInMemory
  -- the sessions that are bound
  pub sessions : RowsInMemory Session

-- It is that centre: a sound one, whose sessions wait for open receipts of their accounts alone.
pub record Represents (c : Core) (s : CentreStateOf) : Type 0 where
  pub centre : IsCentre c s.setup s.moment s.messages s.queues s.reports s.sessions.rows
  pub reference_index : ReferencesRepresent s.reference_index c.rows.bars c.rows.messages c.rows.parts
  pub log : LogRepresents s.log c.rows.reports
  pub awaited : AreAwaited c.rows.messages c.rows.reports c.sessions
