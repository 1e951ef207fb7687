use Rattle.std.proofs.Common.{refl, rules}
use Rattle.sms_store_sql.proofs.listing.Columns.{has_in}
use Rattle.sms_store_tables.proofs.centre.parts.PartRowStoredRowCentreStore.read.Goals as goal

pub returns-in_err-id-clause-back : goal.returns-in_err-id-clause-back
returns-in_err-id-clause-back c x fits same = let lacks = c.in_err-id.ensures.only x.id fits.id (has_in _ _ 0 _ same refl refl) in search (rules, lacks)

pub returns-in_err-number-clause-back : goal.returns-in_err-number-clause-back
returns-in_err-number-clause-back c x fits same = let lacks = c.in_err-number.ensures.only x.number fits.number (has_in _ _ 1 _ same refl refl) in search (rules, lacks)

pub returns-in_err-reference-clause-back : goal.returns-in_err-reference-clause-back
returns-in_err-reference-clause-back c x fits same = let lacks = c.in_err-reference.ensures.only x.reference fits.reference (has_in _ _ 2 _ same refl refl) in search (rules, lacks)

pub returns-in_err-tpdu-clause-back : goal.returns-in_err-tpdu-clause-back
returns-in_err-tpdu-clause-back c x fits same = let lacks = c.in_err-tpdu.ensures.only x.tpdu (has_in _ _ 3 _ same refl refl) in search (rules, lacks)

pub returns-in_err-key-clause-back : goal.returns-in_err-key-clause-back
returns-in_err-key-clause-back c x fits same = let lacks = c.in_err-key.ensures.only x.key fits.key (record { bits = has_in _ _ 4 _ same refl refl; reference = has_in _ _ 5 _ same refl refl; total = has_in _ _ 6 _ same refl refl; number_is = has_in _ _ 7 _ same refl refl }) in search (rules, lacks)

pub returns-in_err-progress-clause-back : goal.returns-in_err-progress-clause-back
returns-in_err-progress-clause-back c x fits same = let lacks = c.in_err-progress.ensures.only x.progress fits.progress (has_in _ _ 8 _ same refl refl) (has_in _ _ 9 _ same refl refl) (has_in _ _ 10 _ same refl refl) in search (rules, lacks)
