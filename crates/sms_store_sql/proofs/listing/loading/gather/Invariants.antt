use Rattle.std.proofs.Common.{◌≡◌, List, [], map, false}
use Rattle.sqlite.specs.Order.{Row}
use Rattle.sqlite.specs.State.{HasCleanDisk, IsUnchanged}
use Rattle.sqlite.specs.Held.{state}
use Rattle.sqlite.specs.Given.{HasGiven}
use Rattle.sms_store_sql.specs.listing.Inside.{SparesOwn}
use Rattle.sms_store_sql.proofs.listing.loading.gather.Given as goal

abbrev pub invariant-rows : goal.invariant-rows
invariant-rows g l =
    let list = g.T.StoredRow.list in
    let old = state g.S.Store l.fn.conn in
    let now = state g.S.Store l.rows.conn.now in
    (l.rows.conn.ghost_name ≡ l.initial.rows.conn.ghost_name) × SparesOwn list.table.schema old now × (l.fn.conn.in_transaction ≡ false → l.rows.conn.now.in_transaction ≡ false)
    × (HasCleanDisk now → old.now.schema ≡ list.table.schema
    → (given : List Row) × HasGiven g.S.Store list.table.select [] l.rows.conn.now given × IsUnchanged old now × (l.found.items ≡ map list.reads given))
