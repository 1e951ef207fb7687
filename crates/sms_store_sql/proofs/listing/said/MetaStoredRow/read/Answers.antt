use Rattle.std.proofs.Common.{refl, rules}
use Rattle.sms_store_sql.proofs.listing.Columns.{has_in}
use Rattle.sms_store_sql.proofs.listing.said.MetaStoredRow.read.Goals as goal

pub returns-in_err-version-clause-back : goal.returns-in_err-version-clause-back
returns-in_err-version-clause-back g c x fits same = let lacks = c.in_err-version.ensures.only x.version fits (has_in _ _ 0 _ same refl refl) in search (rules, lacks)

pub returns-in_err-kind-clause-back : goal.returns-in_err-kind-clause-back
returns-in_err-kind-clause-back g c x fits same = let lacks = c.in_err-kind.ensures.only x.kind (has_in _ _ 1 _ same refl refl) in search (rules, lacks)
