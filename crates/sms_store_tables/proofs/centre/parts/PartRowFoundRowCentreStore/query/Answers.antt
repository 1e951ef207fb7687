use Rattle.std.proofs.Common.{rules}
use Rattle.sms_store_sql.proofs.listing.Refused.{of_big}
use Rattle.sms_store_tables.proofs.centre.parts.PartRowFoundRowCentreStore.query.Goals as goal

pub returns-in_err-pair-clause-back : goal.returns-in_err-pair-clause-back
returns-in_err-pair-clause-back g c clean plain = let none = of_big _ c.in_err-pair.ensures.only.0 in search (rules, none)
