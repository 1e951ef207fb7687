-- The rows that a handset keeps, and what they are made of.
pub use Rattle.sms_store_tables.specs.handset.Types.{Entry, DiscardedGroup, LastAccepted, OutEntry, Meta, StoreKind}
pub use Rattle.sms_handset_draft.specs.declared.counters.Counters.{Counters}
pub use Rattle.sms_store.specs.declared.handset.counters.CountersRow.{CountersRow}
pub use Rattle.sms_handset_draft.specs.declared.rows.Rows.{Rows}
pub use Rattle.sms_handset_draft.specs.declared.setup.Setup.{Setup}
pub use Rattle.sms_handset_draft.specs.Draft.{rows_after}
pub use Rattle.sms_handset_rows.specs.inbox.Keys.{entry_key, last_key, mark_key}
pub use Rattle.sms_handset_rows.specs.outbox.Keys.{out_key}
pub use Rattle.sms_handset_draft.specs.Outcome.{changes_in}
pub use Rattle.sms_handset_draft.specs.FirstRows.{first_rows}
pub use Rattle.sms_handset_draft.specs.Draft.{Changes}
