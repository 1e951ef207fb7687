use Rattle.std.proofs.Common.{rules, sym}
use Rattle.sms_store_sql.proofs.listing.Found.{first_seen}
use Rattle.sms_store_sql.proofs.listing.finding.first_row.Goals as goal

pub returns-in_err-found-in-Some-clause-back : goal.returns-in_err-found-in-Some-clause-back
returns-in_err-found-in-Some-clause-back g c seen fit is =
    let list = g.T.StoredRow.list in
    let first = first_seen list.columns list.Fits seen c.args.rows.now _ (sym c.in-Some.ensures.value) fit is in
    let lacks = c.in_err-found-in-Some.ensures.back first.0 first.1 first.2 in
    search (rules, lacks)
