use Rattle.std.proofs.Common.{◌≡◌, IsTrue, take}
use Rattle.sqlite.specs.State.{HasCleanDisk}
use Rattle.sqlite.specs.Held.{state}
use Rattle.sms_rows.specs.table.Table.{all_applied}
use Rattle.sms_store_sql.specs.listing.Inside.{Alters, Keeps, Spares}
use Rattle.sms_store_sql.proofs.listing.inside.write.Given as goal

abbrev pub invariant-loop-item : goal.invariant-loop-item
invariant-loop-item g l = record {
  same : l.tx.conn.ghost_name ≡ l.initial.tx.conn.ghost_name;
  done : HasCleanDisk (state g.S.Store l.tx.conn.now) → IsTrue (state g.S.Store l.initial.tx.conn.now).is_open → IsTrue (state g.S.Store l.initial.tx.conn.now).in_transaction
      → Alters g.T.StoredRow.list (all_applied g.T.StoredRow.list.key (take l.item-index l.changes)) (state g.S.Store l.initial.tx.conn.now) (state g.S.Store l.tx.conn.now);
  uncommitted : Keeps g.S.Store l.initial.tx.conn.now l.tx.conn.now;
  survives : Spares g.S.Store l.initial.tx.conn.now l.tx.conn.now;
}
