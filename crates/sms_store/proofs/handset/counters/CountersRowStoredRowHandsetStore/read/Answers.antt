use Rattle.std.proofs.Common.{refl, rules}
use Rattle.sms_store_sql.proofs.listing.Columns.{has_in}
use Rattle.sms_store.proofs.handset.counters.CountersRowStoredRowHandsetStore.read.Goals as goal

pub returns-in_err-entry-clause-back : goal.returns-in_err-entry-clause-back
returns-in_err-entry-clause-back c x fits same = let lacks = c.in_err-entry.ensures.only x.counters.entry fits.entry (has_in _ _ 1 _ same refl refl) in search (rules, lacks)

pub returns-in_err-message_reference-clause-back : goal.returns-in_err-message_reference-clause-back
returns-in_err-message_reference-clause-back c x fits same = let lacks = c.in_err-message_reference.ensures.only x.counters.message_reference fits.message_reference (has_in _ _ 2 _ same refl refl) in search (rules, lacks)

pub returns-in_err-reference-clause-back : goal.returns-in_err-reference-clause-back
returns-in_err-reference-clause-back c x fits same = let lacks = c.in_err-reference.ensures.only x.counters.reference fits.reference (has_in _ _ 3 _ same refl refl) in search (rules, lacks)

pub returns-in_err-concat_reference-clause-back : goal.returns-in_err-concat_reference-clause-back
returns-in_err-concat_reference-clause-back c x fits same = let lacks = c.in_err-concat_reference.ensures.only x.counters.concat_reference fits.concat_reference (has_in _ _ 4 _ same refl refl) in search (rules, lacks)

pub returns-in_err-notice-clause-back : goal.returns-in_err-notice-clause-back
returns-in_err-notice-clause-back c x fits same = let lacks = c.in_err-notice.ensures.only x.counters.notice fits.notice (has_in _ _ 5 _ same refl refl) in search (rules, lacks)

pub returns-in_err-is_memory_full-clause-back : goal.returns-in_err-is_memory_full-clause-back
returns-in_err-is_memory_full-clause-back c x fits same = let lacks = c.in_err-is_memory_full.ensures.only x.counters.is_memory_full (has_in _ _ 6 _ same refl refl) in search (rules, lacks)
