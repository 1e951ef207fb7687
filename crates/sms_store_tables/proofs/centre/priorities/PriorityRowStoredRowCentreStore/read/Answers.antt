use Rattle.std.proofs.Common.{refl, rules}
use Rattle.sms_store_sql.proofs.listing.Columns.{has_in}
use Rattle.sms_store_tables.proofs.centre.priorities.PriorityRowStoredRowCentreStore.read.Goals as goal

pub returns-in_err-id-clause-back : goal.returns-in_err-id-clause-back
returns-in_err-id-clause-back c x fits same = let lacks = c.in_err-id.ensures.only x.id fits.id (has_in _ _ 0 _ same refl refl) in search (rules, lacks)

pub returns-in_err-priority-clause-back : goal.returns-in_err-priority-clause-back
returns-in_err-priority-clause-back c x fits same = let lacks = c.in_err-priority.ensures.only x.priority fits.priority (has_in _ _ 1 _ same refl refl) in search (rules, lacks)
