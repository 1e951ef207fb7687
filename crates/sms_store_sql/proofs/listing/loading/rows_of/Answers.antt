use Rattle.std.proofs.Common.{subst, ap, ◌∙◌, ◌≡◌, ◌<◌, List, get_or, length, rules, take, ◌+◌, sym}
use Rattle.sms_store_sql.proofs.listing.Found.{more_seen, seen_at}
use Rattle.sms_store_sql.proofs.listing.loading.rows_of.Goals as goal

pub loop-row-preserved : goal.loop-row-preserved
loop-row-preserved g c seen fit is =
    let list = g.T.StoredRow.list in
    subst (λ items. items ≡ take (c.loop-row.row-index + 1) seen) (sym c.in_ok-push.ensures.items)
    (more_seen list.columns list.Fits c.args.rows.now seen c.loop-row.row-index c.row-item.result c.in_ok-read.field-0 c.loop-row.found.items c.loop-row-test.true c.row-item.is fit is (λ s fits here. c.in_ok-read.ensures.found ∙ ap list.reads here ∙ g.met.T.StoredRow.is_list.reads_back s fits) (c.loop-row.invariant seen fit is))

pub returns-in_err-read-clause-back : goal.returns-in_err-read-clause-back
returns-in_err-read-clause-back g c seen fit is =
    let list = g.T.StoredRow.list in
    let inside = subst (λ rows. c.loop-row.row-index < length rows) is c.loop-row-test.true in
    let item = c.row-item.is ∙ ap (λ rows. get_or rows c.loop-row.row-index c.row-item.result) is in
    let here = seen_at list.columns list.Fits seen c.loop-row.row-index c.row-item.result inside item fit in
    let lacks = c.in_err-read.ensures.back here.0 here.1 here.2 in
    search (rules, lacks)
