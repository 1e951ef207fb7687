use Rattle.std.proofs.Common.{refl, rules}
use Rattle.sms_store_sql.proofs.listing.Columns.{has_in}
use Rattle.sms_store_tables.proofs.centre.reports.ReportRowStoredRowCentreStore.read.Goals as goal

pub returns-in_err-place-clause-back : goal.returns-in_err-place-clause-back
returns-in_err-place-clause-back c x fits same = let lacks = c.in_err-place.ensures.only x.place (has_in _ _ 0 _ same refl refl) in search (rules, lacks)

pub returns-in_err-id-clause-back : goal.returns-in_err-id-clause-back
returns-in_err-id-clause-back c x fits same = let lacks = c.in_err-id.ensures.only x.id fits.id (has_in _ _ 1 _ same refl refl) in search (rules, lacks)

pub returns-in_err-kind-clause-back : goal.returns-in_err-kind-clause-back
returns-in_err-kind-clause-back c x fits same = let lacks = c.in_err-kind.ensures.only x.kind fits.kind (has_in _ _ 2 _ same refl refl) (has_in _ _ 3 _ same refl refl) (has_in _ _ 4 _ same refl refl) in search (rules, lacks)

pub returns-in_err-made-clause-back : goal.returns-in_err-made-clause-back
returns-in_err-made-clause-back c x fits same = let lacks = c.in_err-made.ensures.only x.made fits.made (has_in _ _ 5 _ same refl refl) in search (rules, lacks)

pub returns-in_err-progress-clause-back : goal.returns-in_err-progress-clause-back
returns-in_err-progress-clause-back c x fits same = let lacks = c.in_err-progress.ensures.only x.progress fits.progress (has_in _ _ 6 _ same refl refl) (has_in _ _ 7 _ same refl refl) (has_in _ _ 8 _ same refl refl) in search (rules, lacks)
