-- The rows that a handset keeps, and what they are made of.
pub use Rattle.sms_alphabet.specs.declared.scheme.Coding.{Coding}
pub use Rattle.sms_alphabet.specs.declared.scheme.Coding.TheVariants.{Septets, Octets, Ucs2, Compressed}
pub use Rattle.sms_alphabet.specs.declared.concat_key.ConcatReference.{ConcatReference}
pub use Rattle.sms_alphabet.specs.declared.concat_key.ConcatReference.TheVariants.{EightBit, SixteenBit}
pub use Rattle.sms_concat.specs.declared.content.Content.{Content}
pub use Rattle.sms_handset_rows.specs.declared.inbox.discarded_group.DiscardedGroup.{DiscardedGroup}
pub use Rattle.sms_handset_rows.specs.declared.inbox.entry.Entry.{Entry}
pub use Rattle.sms_handset_rows.specs.declared.inbox.entry.Group.{Group}
pub use Rattle.sms_handset_rows.specs.declared.inbox.entry.Message.{Message}
pub use Rattle.sms_handset_rows.specs.declared.inbox.entry.Message.TheVariants.{Single, Part, Joined}
pub use Rattle.sms_handset_rows.specs.declared.inbox.last_accepted.LastAccepted.{LastAccepted}
pub use Rattle.sms_handset_rows.specs.declared.outbox.out_entry.EntryState.{EntryState}
pub use Rattle.sms_handset_rows.specs.declared.outbox.out_entry.EntryState.TheVariants.{Queued, Sending, Sent, Failed, Unsure}
pub use Rattle.sms_handset_rows.specs.declared.outbox.out_entry.OutEntry.{OutEntry}
pub use Rattle.sms_store_sql.specs.declared.listing.meta.Meta.{Meta}
pub use Rattle.sms_store_sql.specs.declared.listing.meta.StoreKind.{StoreKind}
