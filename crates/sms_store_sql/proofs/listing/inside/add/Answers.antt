use Rattle.std.proofs.Common.{subst}
use Rattle.sqlite.specs.State.{State}
use Rattle.sqlite.specs.Held.{state}
use Rattle.sms_store_sql.specs.listing.Inside.{RanOn}
use Rattle.sms_store_sql.proofs.listing.News.{added}
use Rattle.sms_store_sql.proofs.listing.inside.add.Goals as goal

pub returns-clause-done : goal.returns-clause-done
returns-clause-done g c clean live inside =
    let list = g.T.StoredRow.list in
    let row = c.args.row.now in
    let a : State = state g.S.Store c.args.tx.now.conn.now in
    let b : State = state g.S.Store c.write.new.tx.conn.now in
    let ran : RanOn list.table.insert (list.columns row) c.in_ok-write.field-0 a b = subst (λ text. RanOn text (list.columns row) c.in_ok-write.field-0 a b) c.table-table.ensures.insert (c.in_ok-write.ensures.done clean live inside) in
    added list g.met.T.StoredRow.is_list row c.in_ok-write.ensures.fits a b (record { count = c.in_ok-write.field-0; ran = ran.ran; inside = ran.inside })
