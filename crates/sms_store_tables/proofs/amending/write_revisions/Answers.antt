use Rattle.std.proofs.Common.{arith, subst, ◌∙◌}
use Rattle.sqlite.specs.State.{HasCleanDisk}
use Rattle.sqlite.specs.Held.{state}
use Rattle.sqlite.proofs.StateLemmas.{survives_then}
use Rattle.sms_store_sql.specs.listing.Inside.{Alters}
use Rattle.sms_store_sql.proofs.listing.Steps.{keeps_then}
use Rattle.sms_centre_rows.specs.waiting.Revisions.{revised}
use Rattle.sms_store_tables.proofs.amending.Steps.{revises_more}
use Rattle.sms_store_tables.proofs.amending.write_revisions.Goals as goal

pub loop-revision-preserved : goal.loop-revision-preserved
loop-revision-preserved g c =
    let list = g.T.StoredRow.list in
    let reaching = g.T.AmendedRow.reaching in
    let was = c.loop-revision.invariant in
    let made = c.in_ok-revise.ensures in
    record {
      same = made.same_reference ∙ was.same;
      done = λ clean live inside.
          let early : HasCleanDisk (state g.S.Store c.loop-revision.tx.conn.now) = omega (arith, made.survives.clean) in
          let before = was.done early live inside in
          revises_more list reaching _ _ _ c.args.revisions.now c.loop-revision.revision-index c.revision-item.result c.loop-revision-test.true before
          (subst (λ x. Alters list (revised list.key reaching x) (state g.S.Store c.loop-revision.tx.conn.now) (state g.S.Store c.revise.new.tx.conn.now)) c.revision-item.is (made.done clean before.inside.is_open before.inside.mode));
      uncommitted = λ clean. keeps_then _ _ _ (was.uncommitted (omega (arith, made.survives.clean))) (made.uncommitted clean);
      survives = survives_then _ _ _ _ _ (λ _. ⊥) (λ _ db none. none) (λ _ db none. none) was.survives made.survives;
    }
