use Rattle.std.proofs.Common.{arith, ◌<◌, subst}
use Rattle.sqlite.specs.State.{State, HasCleanDisk}
use Rattle.sqlite.specs.Held.{state}
use Rattle.sms_store_sql.specs.listing.Inside.{RanOn}
use Rattle.sms_store_sql.proofs.listing.Puts.{changes, adds}
use Rattle.sms_store_sql.proofs.listing.inside.put.Goals as goal

pub returns-in_ok-write-clause-done : goal.returns-in_ok-write-clause-done
returns-in_ok-write-clause-done g c clean live inside =
    let list = g.T.StoredRow.list in
    let row = c.args.row.now in
    let a : State = state g.S.Store c.args.tx.now.conn.now in
    let b : State = state g.S.Store c.write.new.tx.conn.now in
    let d : State = state g.S.Store c.write-then-changed-eq0.new.tx.conn.now in
    let early : HasCleanDisk b = omega (arith, c.write-then-changed-eq0.ensures.survives.clean) in
    let first : RanOn list.table.update (list.columns row) c.in_ok-changed.changed a b = subst (λ text. RanOn text (list.columns row) c.in_ok-changed.changed a b) c.table-table.ensures.update (c.in_ok-changed.ensures.done early live inside) in
    let none : RanOn list.table.update (list.columns row) 0 a b = subst (λ n. RanOn list.table.update (list.columns row) n a b) c.if-changed-eq0.true first in
    let second : RanOn list.table.insert (list.columns row) c.in_ok-write.field-0 b d = subst (λ text. RanOn text (list.columns row) c.in_ok-write.field-0 b d) c.table-table.ensures.insert (c.in_ok-write.ensures.done clean first.inside.is_open first.inside.mode) in
    adds list g.met.T.StoredRow.is_list row c.in_ok-changed.ensures.fits c.in_ok-write.field-0 a b d none second

pub returns-else-changed-eq0-clause-done : goal.returns-else-changed-eq0-clause-done
returns-else-changed-eq0-clause-done g c clean live inside =
    let list = g.T.StoredRow.list in
    let row = c.args.row.now in
    let a : State = state g.S.Store c.args.tx.now.conn.now in
    let b : State = state g.S.Store c.write.new.tx.conn.now in
    let first : RanOn list.table.update (list.columns row) c.in_ok-changed.changed a b = subst (λ text. RanOn text (list.columns row) c.in_ok-changed.changed a b) c.table-table.ensures.update (c.in_ok-changed.ensures.done clean live inside) in
    let some : 0 < c.in_ok-changed.changed = omega (arith, c.if-changed-eq0.false) in
    changes list g.met.T.StoredRow.is_list row c.in_ok-changed.ensures.fits c.in_ok-changed.changed a b some first
