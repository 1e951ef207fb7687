use Rattle.std.proofs.Common.{arith, refl, ◌∙◌}
use Rattle.sqlite.specs.State.{HasCleanDisk}
use Rattle.sqlite.specs.Held.{state}
use Rattle.sms_store_sql.proofs.listing.Steps.{ok_then}
use Rattle.sms_store_migration.proofs.Renaming.{migrates}
use Rattle.sms_store_migration.proofs.migrating.MigrationWork.run.Goals as goal

pub returns-clause-done : goal.returns-clause-done
returns-clause-done g c clean live inside =
    let second_early : HasCleanDisk (state g.S.Store c.rank_messages.new.tx.conn.now) = omega (arith, c.rename.ensures.survives.clean) in
    let early : HasCleanDisk (state g.S.Store c.complete_tables.new.tx.conn.now) = omega (arith, second_early, c.rank_messages.ensures.survives.clean) in
    let first = c.in_ok-complete_tables.ensures.done early live inside in
    let second = c.in_ok-rank_messages.ensures.done second_early first.inside.is_open first.inside.mode in
    ok_then c.rename.result (λ third. record {
      inside = record { was_open = first.inside.was_open; is_open = third.inside.is_open; now_is = refl; committed_is = third.inside.committed_is ∙ second.inside.committed_is ∙ first.inside.committed_is; mode = third.inside.mode };
      changed = migrates _ _ _ _ first.changed second.changed third.changed;
    }) (c.rename.ensures.done clean second.inside.is_open second.inside.mode)
