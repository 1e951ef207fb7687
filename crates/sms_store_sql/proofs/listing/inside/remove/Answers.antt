use Rattle.sms_store_sql.proofs.listing.Steps.{ok_then}
use Rattle.sms_store_sql.proofs.listing.Statements.{deletes}
use Rattle.sms_store_sql.proofs.listing.inside.remove.Goals as goal

pub returns-clause-done : goal.returns-clause-done
returns-clause-done g c clean live inside =
    ok_then c.run_at.result (deletes g.T.StoredRow.list g.met.T.StoredRow.is_list _ _ c.args.key)
    (rw (c.table-table.ensures.delete, c.table-table.ensures.key c.args.key) at (c.run_at.ensures.done clean live inside))
