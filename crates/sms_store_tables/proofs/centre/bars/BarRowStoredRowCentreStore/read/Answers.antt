use Rattle.std.proofs.Common.{refl, rules}
use Rattle.sms_store_sql.proofs.listing.Columns.{has_in}
use Rattle.sms_store_tables.proofs.centre.bars.BarRowStoredRowCentreStore.read.Goals as goal

pub returns-in_err-place-clause-back : goal.returns-in_err-place-clause-back
returns-in_err-place-clause-back c x fits same = let lacks = c.in_err-place.ensures.only x.place (has_in _ _ 0 _ same refl refl) in search (rules, lacks)

pub returns-in_err-source-clause-back : goal.returns-in_err-source-clause-back
returns-in_err-source-clause-back c x fits same = let lacks = c.in_err-source.ensures.only x.source fits.source (has_in _ _ 1 _ same refl refl) (has_in _ _ 2 _ same refl refl) (has_in _ _ 3 _ same refl refl) in search (rules, lacks)

pub returns-in_err-handset-clause-back : goal.returns-in_err-handset-clause-back
returns-in_err-handset-clause-back c x fits same = let lacks = c.in_err-handset.ensures.only x.handset fits.handset (has_in _ _ 4 _ same refl refl) in search (rules, lacks)

pub returns-in_err-reference-clause-back : goal.returns-in_err-reference-clause-back
returns-in_err-reference-clause-back c x fits same = let lacks = c.in_err-reference.ensures.only x.reference fits.reference (has_in _ _ 5 _ same refl refl) in search (rules, lacks)

pub returns-in_err-is_own-clause-back : goal.returns-in_err-is_own-clause-back
returns-in_err-is_own-clause-back c x fits same = let lacks = c.in_err-is_own.ensures.only x.is_own (has_in _ _ 6 _ same refl refl) in search (rules, lacks)
