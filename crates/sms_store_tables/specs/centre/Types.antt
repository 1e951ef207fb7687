-- The rows that a centre keeps, and what they are made of.
pub use Rattle.sms_base.specs.declared.final_state.FinalState.{FinalState}
pub use Rattle.sms_base.specs.declared.final_state.FinalState.TheVariants.{Delivered, Expired, Deleted, Undeliverable}
pub use Rattle.sms_alphabet.specs.declared.concat_key.ConcatKey.{ConcatKey}
pub use Rattle.sms_alphabet.specs.declared.concat_key.ConcatReference.{ConcatReference}
pub use Rattle.sms_alphabet.specs.declared.concat_key.ConcatReference.TheVariants.{EightBit, SixteenBit}
pub use Rattle.sms_store_sql.specs.declared.listing.meta.Meta.{Meta}
pub use Rattle.sms_store_sql.specs.declared.listing.meta.StoreKind.{StoreKind}
pub use Rattle.sms_centre_rows.specs.declared.messages.bar.BarRow.{BarRow}
pub use Rattle.sms_centre_rows.specs.declared.messages.message.MessageRow.{MessageRow}
pub use Rattle.sms_base.specs.declared.originator.Originator.{Originator}
pub use Rattle.sms_base.specs.declared.originator.Originator.TheVariants.{Application, Handset}
pub use Rattle.sms_base.specs.declared.wish.Wish.{Wish}
pub use Rattle.sms_base.specs.declared.wish.Wish.TheVariants.{Nothing, Always, OnFailure}
pub use Rattle.sms_centre_rows.specs.declared.messages.part.PartRow.{PartRow}
pub use Rattle.sms_centre_rows.specs.declared.messages.priority.PriorityRow.{PriorityRow}
pub use Rattle.sms_centre_rows.specs.declared.reports.report.ReportKind.{ReportKind}
pub use Rattle.sms_centre_rows.specs.declared.reports.report.ReportKind.TheVariants.{Receipt, Status, Unsent}
pub use Rattle.sms_centre_rows.specs.declared.reports.report.ReportRow.{ReportRow}
pub use Rattle.sms_centre_rows.specs.declared.waiting.handset.HandsetRow.{HandsetRow}
pub use Rattle.sms_centre_rows.specs.declared.waiting.progress.Progress.{Progress}
pub use Rattle.sms_centre_rows.specs.declared.waiting.reference.ReferenceRow.{ReferenceRow}
