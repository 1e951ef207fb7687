use Rattle.std.proofs.Common.{refl, rules}
use Rattle.sms_store_sql.proofs.listing.Columns.{has_in}
use Rattle.sms_store_tables.proofs.handset.entries.part_at.Goals as goal

pub returns-in_err-group-clause-only : goal.returns-in_err-group-clause-only
returns-in_err-group-clause-only c entry slots g part tpdu stored same = let lacks = c.in_err-group.ensures.only g stored.0 (record { ton = has_in _ _ 3 _ same refl refl; npi = has_in _ _ 4 _ same refl refl; text = has_in _ _ 5 _ same refl refl; bits = has_in _ _ 6 _ same refl refl; reference = has_in _ _ 7 _ same refl refl; total = has_in _ _ 8 _ same refl refl }) in search (rules, lacks)

pub returns-in_err-number-clause-only : goal.returns-in_err-number-clause-only
returns-in_err-number-clause-only c entry slots g part tpdu stored same = let lacks = c.in_err-number.ensures.only part stored.1 (has_in _ _ 9 _ same refl refl) in search (rules, lacks)

pub returns-in_err-tpdu-clause-only : goal.returns-in_err-tpdu-clause-only
returns-in_err-tpdu-clause-only c entry slots g part tpdu stored same = let lacks = c.in_err-tpdu.ensures.only tpdu (has_in _ _ 12 _ same refl refl) in search (rules, lacks)
