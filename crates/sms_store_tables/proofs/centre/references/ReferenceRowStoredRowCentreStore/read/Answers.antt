use Rattle.std.proofs.Common.{refl, rules}
use Rattle.sms_store_sql.proofs.listing.Columns.{has_in}
use Rattle.sms_store_tables.proofs.centre.references.ReferenceRowStoredRowCentreStore.read.Goals as goal

pub returns-in_err-place-clause-back : goal.returns-in_err-place-clause-back
returns-in_err-place-clause-back c x fits same = let lacks = c.in_err-place.ensures.only x.place fits.place (has_in _ _ 0 _ same refl refl) in search (rules, lacks)

pub returns-in_err-reference-clause-back : goal.returns-in_err-reference-clause-back
returns-in_err-reference-clause-back c x fits same = let lacks = c.in_err-reference.ensures.only x.reference fits.reference (has_in _ _ 1 _ same refl refl) in search (rules, lacks)

pub returns-in_err-last-clause-back : goal.returns-in_err-last-clause-back
returns-in_err-last-clause-back c x fits same = let lacks = c.in_err-last.ensures.only x.last fits.last (has_in _ _ 2 _ same refl refl) in search (rules, lacks)
