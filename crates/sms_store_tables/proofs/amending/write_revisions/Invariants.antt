use Rattle.std.proofs.Common.{◌≡◌, IsTrue, take}
use Rattle.sqlite.specs.State.{HasCleanDisk}
use Rattle.sqlite.specs.Held.{state}
use Rattle.sms_store_sql.specs.listing.Inside.{Alters, Keeps, Spares}
use Rattle.sms_centre_rows.specs.waiting.Revisions.{all_revised}
use Rattle.sms_store_tables.proofs.amending.write_revisions.Given as goal

abbrev pub invariant-loop-revision : goal.invariant-loop-revision
invariant-loop-revision g l = record {
  same : l.tx.conn.ghost_name ≡ l.initial.tx.conn.ghost_name;
  done : HasCleanDisk (state g.S.Store l.tx.conn.now) → IsTrue (state g.S.Store l.initial.tx.conn.now).is_open → IsTrue (state g.S.Store l.initial.tx.conn.now).in_transaction
      → Alters g.T.StoredRow.list (all_revised g.T.StoredRow.list.key g.T.AmendedRow.reaching (take l.revision-index l.revisions)) (state g.S.Store l.initial.tx.conn.now) (state g.S.Store l.tx.conn.now);
  uncommitted : Keeps g.S.Store l.initial.tx.conn.now l.tx.conn.now;
  survives : Spares g.S.Store l.initial.tx.conn.now l.tx.conn.now;
}
