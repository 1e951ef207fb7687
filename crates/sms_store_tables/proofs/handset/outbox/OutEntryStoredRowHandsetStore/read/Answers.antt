use Rattle.std.proofs.Common.{refl, rules}
use Rattle.sms_store_sql.proofs.listing.Columns.{has_in}
use Rattle.sms_store_tables.proofs.handset.outbox.OutEntryStoredRowHandsetStore.read.Goals as goal

pub returns-in_err-number-clause-back : goal.returns-in_err-number-clause-back
returns-in_err-number-clause-back c x fits same = let lacks = c.in_err-number.ensures.only x.number fits.number (has_in _ _ 0 _ same refl refl) in search (rules, lacks)

pub returns-in_err-message_reference-clause-back : goal.returns-in_err-message_reference-clause-back
returns-in_err-message_reference-clause-back c x fits same = let lacks = c.in_err-message_reference.ensures.only x.message_reference fits.message_reference (has_in _ _ 1 _ same refl refl) in search (rules, lacks)

pub returns-in_err-reference-clause-back : goal.returns-in_err-reference-clause-back
returns-in_err-reference-clause-back c x fits same = let lacks = c.in_err-reference.ensures.only x.reference fits.reference (has_in _ _ 2 _ same refl refl) in search (rules, lacks)

pub returns-in_err-destination-clause-back : goal.returns-in_err-destination-clause-back
returns-in_err-destination-clause-back c x fits same = let lacks = c.in_err-destination.ensures.only x.destination fits.destination (has_in _ _ 3 _ same refl refl) (has_in _ _ 4 _ same refl refl) (has_in _ _ 5 _ same refl refl) in search (rules, lacks)

pub returns-in_err-tpdu-clause-back : goal.returns-in_err-tpdu-clause-back
returns-in_err-tpdu-clause-back c x fits same = let lacks = c.in_err-tpdu.ensures.only x.tpdu fits.tpdu.0 fits.tpdu.1 (has_in _ _ 6 _ same refl refl) in search (rules, lacks)

pub returns-in_err-is_long-clause-back : goal.returns-in_err-is_long-clause-back
returns-in_err-is_long-clause-back c x fits same = let lacks = c.in_err-is_long.ensures.only x.is_long (has_in _ _ 7 _ same refl refl) in search (rules, lacks)

pub returns-in_err-state-clause-back : goal.returns-in_err-state-clause-back
returns-in_err-state-clause-back c x fits same = let lacks = c.in_err-state.ensures.only x.state (has_in _ _ 8 _ same refl refl) in search (rules, lacks)

pub returns-in_err-tries-clause-back : goal.returns-in_err-tries-clause-back
returns-in_err-tries-clause-back c x fits same = let lacks = c.in_err-tries.ensures.only x.tries fits.tries (has_in _ _ 9 _ same refl refl) in search (rules, lacks)

pub returns-in_err-rejects_duplicates-clause-back : goal.returns-in_err-rejects_duplicates-clause-back
returns-in_err-rejects_duplicates-clause-back c x fits same = let lacks = c.in_err-rejects_duplicates.ensures.only x.rejects_duplicates (has_in _ _ 10 _ same refl refl) in search (rules, lacks)

pub returns-in_err-due-clause-back : goal.returns-in_err-due-clause-back
returns-in_err-due-clause-back c x fits same = let lacks = c.in_err-due.ensures.only x.due fits.due (has_in _ _ 11 _ same refl refl) in search (rules, lacks)

pub returns-in_err-status-clause-back : goal.returns-in_err-status-clause-back
returns-in_err-status-clause-back c x fits same = let lacks = c.in_err-status.ensures.only x.status fits.status (has_in _ _ 12 _ same refl refl) in search (rules, lacks)
