use Rattle.std.proofs.Common.{refl, rules}
use Rattle.sms_store_sql.proofs.listing.Columns.{has_in}
use Rattle.sms_store_tables.proofs.handset.last.LastAcceptedStoredRowHandsetStore.read.Goals as goal

pub returns-in_err-reference-clause-back : goal.returns-in_err-reference-clause-back
returns-in_err-reference-clause-back c x fits same = let lacks = c.in_err-reference.ensures.only x.reference fits (has_in _ _ 0 _ same refl refl) in search (rules, lacks)

pub returns-in_err-tpdu-clause-back : goal.returns-in_err-tpdu-clause-back
returns-in_err-tpdu-clause-back c x fits same = let lacks = c.in_err-tpdu.ensures.only x.tpdu (has_in _ _ 1 _ same refl refl) in search (rules, lacks)
