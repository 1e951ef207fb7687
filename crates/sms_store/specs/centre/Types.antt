-- The rows that a centre keeps, and what they are made of.
pub use Rattle.sms_store_tables.specs.centre.Types.{BarRow, MessageRow, PartRow, ReferenceRow, HandsetRow, ReportRow, PriorityRow, Meta, StoreKind}
pub use Rattle.sms_centre_spec.specs.declared.rows.Changes.{Changes}
pub use Rattle.sms_centre_spec.specs.declared.rows.Rows.{Rows}
pub use Rattle.sms_centre_spec.specs.declared.setup.Setup.{Setup}
pub use Rattle.sms_centre_spec.specs.Draft.{rows_after}
pub use Rattle.sms_centre_spec.specs.SoundRows.{first_rows}
pub use Rattle.sms_centre_rows.specs.messages.Bars.{bar_key}
pub use Rattle.sms_centre_rows.specs.messages.Messages.{message_key, part_key, part_reaching, priority_key}
pub use Rattle.sms_centre_rows.specs.reports.Reports.{report_key, report_reaching}
pub use Rattle.sms_centre_rows.specs.waiting.Keys.{handset_key, reference_key}
