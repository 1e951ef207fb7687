use Rattle.std.proofs.Common.{arith, subst, ◌∙◌}
use Rattle.sqlite.specs.State.{HasCleanDisk}
use Rattle.sqlite.specs.Held.{state}
use Rattle.sqlite.proofs.StateLemmas.{survives_then}
use Rattle.sms_rows.specs.table.Table.{applied}
use Rattle.sms_store_sql.specs.listing.Inside.{Alters}
use Rattle.sms_store_sql.proofs.listing.Steps.{alters_more, keeps_then}
use Rattle.sms_store_sql.proofs.listing.inside.write.Goals as goal

pub loop-item-preserved : goal.loop-item-preserved
loop-item-preserved g c =
    let list = g.T.StoredRow.list in
    let was = c.loop-item.invariant in
    let made = c.in_ok-change.ensures in
    record {
      same = made.same_reference ∙ was.same;
      done = λ clean live inside.
          let early : HasCleanDisk (state g.S.Store c.loop-item.tx.conn.now) = omega (arith, made.survives.clean) in
          let before = was.done early live inside in
          alters_more list _ _ _ c.args.changes.now c.loop-item.item-index c.item-item.result c.loop-item-test.true before
          (subst (λ x. Alters list (applied list.key x) (state g.S.Store c.loop-item.tx.conn.now) (state g.S.Store c.change.new.tx.conn.now)) c.item-item.is (made.done clean before.inside.is_open before.inside.mode));
      uncommitted = λ clean. keeps_then _ _ _ (was.uncommitted (omega (arith, made.survives.clean))) (made.uncommitted clean);
      survives = survives_then _ _ _ _ _ (λ _. ⊥) (λ _ db none. none) (λ _ db none. none) was.survives made.survives;
    }
