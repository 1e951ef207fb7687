use Rattle.std.proofs.Common.{rules}
use Rattle.sms_store_sql.proofs.listing.Refused.{of_big}
use Rattle.sms_store_tables.proofs.centre.reports.ReportRowFoundRowCentreStore.query.Goals as goal

pub returns-in_err-place-clause-back : goal.returns-in_err-place-clause-back
returns-in_err-place-clause-back g c clean plain = let none = of_big _ c.in_err-place.ensures.only.0 in search (rules, none)
