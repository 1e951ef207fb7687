use Rattle.sms_store_sql.proofs.listing.Queries.{query_keeps}
use Rattle.sms_store_sql.proofs.listing.Refused.{of_query_alone}
use Rattle.sms_store_sql.proofs.listing.inside.query.Goals as goal

pub returns-clause-uncommitted : goal.returns-clause-uncommitted
returns-clause-uncommitted g c clean plain =
    query_keeps (λ rows. rows.items) c.args.sql.now _ _ _ c.query_all.result plain (c.query_all.ensures.ok clean) (c.query_all.ensures.err clean)

pub returns-clause-back : goal.returns-clause-back
returns-clause-back g c clean plain = of_query_alone c.args.sql.now _ _ _ c.query_all.result plain (c.query_all.ensures.err clean)
