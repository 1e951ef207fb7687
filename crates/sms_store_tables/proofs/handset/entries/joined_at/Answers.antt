use Rattle.std.proofs.Common.{refl, rules}
use Rattle.sms_store_sql.proofs.listing.Columns.{has_in}
use Rattle.sms_store_tables.proofs.handset.entries.joined_at.Goals as goal

pub returns-in_err-source-clause-only : goal.returns-in_err-source-clause-only
returns-in_err-source-clause-only c entry slots source content stored same = let lacks = c.in_err-source.ensures.only source stored.0 (has_in _ _ 3 _ same refl refl) (has_in _ _ 4 _ same refl refl) (has_in _ _ 5 _ same refl refl) in search (rules, lacks)

pub returns-in_err-coding-clause-only : goal.returns-in_err-coding-clause-only
returns-in_err-coding-clause-only c entry slots source content stored same = let lacks = c.in_err-coding.ensures.only content.coding (has_in _ _ 10 _ same refl refl) in search (rules, lacks)

pub returns-in_err-dcs-clause-only : goal.returns-in_err-dcs-clause-only
returns-in_err-dcs-clause-only c entry slots source content stored same = let lacks = c.in_err-dcs.ensures.only content.dcs stored.1 (has_in _ _ 11 _ same refl refl) in search (rules, lacks)

pub returns-in_err-units-clause-only : goal.returns-in_err-units-clause-only
returns-in_err-units-clause-only c entry slots source content stored same = let lacks = c.in_err-units.ensures.only content.units (has_in _ _ 12 _ same refl refl) in search (rules, lacks)
