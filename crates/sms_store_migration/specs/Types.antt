-- The rows that a centre keeps, of which all versions of its store speak.
pub use Rattle.sms_store_tables.specs.centre.Types.{BarRow, MessageRow, PriorityRow, Meta}
pub use Rattle.sms_centre_spec.specs.declared.rows.Rows.{Rows}
