-- Tables of rows, as a centre's definition has the rows.
use Rattle.sms_base.specs.Among.{Among}
use Rattle.sms_rows.specs.table.Table.{Rises}
use Rattle.sms_centre_rows.specs.messages.Bars.{bar_key}
use Rattle.sms_centre_rows.specs.messages.Messages.{message_key, part_key, priority_key}
use Rattle.sms_centre_rows.specs.declared.messages.message.MessageRow.{MessageRow}
use Rattle.sms_centre_rows.specs.messages.SoundMessages.{SoundMessages}
use Rattle.sms_centre_rows.specs.reports.Reports.{report_key}
use Rattle.sms_centre_rows.specs.waiting.Keys.{handset_key, reference_key}
use Rattle.sms_centre_spec.specs.declared.rows.Rows.{Rows}
use Rattle.sms_centre_spec.specs.SoundRows.{AreTimes, HasReportAddress, IsSetup}
use Rattle.sms_centre_recovery.specs.declared.soundness.tables.RowTables.{RowTables}

abbrev pub rows_of : RowTables → Rows
rows_of t = record {
  messages = t.messages.rows;
  parts = t.parts.rows;
  references = t.references.rows;
  handsets = t.handsets.rows;
  reports = t.reports.rows;
  priorities = t.priorities.rows;
  bars = t.bars.rows;
  setup = t.setup;
}

-- each list is in the order of its keys
pub record KeysRise (rows : Rows) : Type 0 where
  pub messages : Rises message_key rows.messages
  pub parts : Rises part_key rows.parts
  pub references : Rises reference_key rows.references
  pub handsets : Rises handset_key rows.handsets
  pub reports : Rises report_key rows.reports
  pub priorities : Rises priority_key rows.priorities
  pub bars : Rises bar_key rows.bars

-- what of the rows is judged without memory
pub record IsSoundAlone (rows : Rows) : Type 0 where
  pub setup : IsSetup rows.setup
  pub times : AreTimes rows.messages rows.references rows.reports
  pub report_addresses : (m : MessageRow) → Among m rows.messages → HasReportAddress m.originator m.source
  pub sound : SoundMessages rows.messages rows.parts rows.priorities
  pub bars : Rises bar_key rows.bars
