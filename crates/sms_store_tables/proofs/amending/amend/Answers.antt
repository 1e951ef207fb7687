use Rattle.sms_store_sql.proofs.listing.Steps.{ok_both}
use Rattle.sms_store_tables.proofs.amending.Amended.{amends}
use Rattle.sms_store_tables.proofs.amending.amend.Goals as goal

pub returns-clause-done : goal.returns-clause-done
returns-clause-done g c clean live inside =
    let row = g.T.AmendedRow in
    ok_both c.update.result (λ far. amends g.T.StoredRow.list g.met.T.StoredRow.is_list row.amendment row.reaching row.progress_columns row.amended_columns g.met.T.AmendedRow.amends c.args.key c.args.progress far _ _) c.update.ensures.fits (c.update.ensures.done clean live inside)
