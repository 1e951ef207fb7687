use Rattle.std.proofs.Common.{refl, rules}
use Rattle.sms_store_sql.proofs.listing.Columns.{has_in}
use Rattle.sms_store_tables.proofs.handset.discarded.DiscardedGroupStoredRowHandsetStore.read.Goals as goal

pub returns-in_err-number-clause-back : goal.returns-in_err-number-clause-back
returns-in_err-number-clause-back c x fits same = let lacks = c.in_err-number.ensures.only x.number fits.number (has_in _ _ 0 _ same refl refl) in search (rules, lacks)

pub returns-in_err-group-clause-back : goal.returns-in_err-group-clause-back
returns-in_err-group-clause-back c x fits same = let lacks = c.in_err-group.ensures.only x.group fits.group (record { ton = has_in _ _ 1 _ same refl refl; npi = has_in _ _ 2 _ same refl refl; text = has_in _ _ 3 _ same refl refl; bits = has_in _ _ 4 _ same refl refl; reference = has_in _ _ 5 _ same refl refl; total = has_in _ _ 6 _ same refl refl }) in search (rules, lacks)

pub returns-in_err-seen-clause-back : goal.returns-in_err-seen-clause-back
returns-in_err-seen-clause-back c x fits same = let lacks = c.in_err-seen.ensures.only x.seen (has_in _ _ 7 _ same refl refl) in search (rules, lacks)
