use Rattle.std.proofs.Common.{arith, refl, ◌∙◌}
use Rattle.sqlite.specs.State.{HasCleanDisk}
use Rattle.sqlite.specs.Held.{state}
use Rattle.sms_store_sql.proofs.listing.Steps.{ok_then}
use Rattle.sms_store_migration.proofs.Renaming.{migrates_second}
use Rattle.sms_store_migration.proofs.migrating.SecondMigrationWork.run.Goals as goal

pub returns-clause-done : goal.returns-clause-done
returns-clause-done g c clean live inside =
    let early : HasCleanDisk (state g.S.Store c.make_bar_table.new.tx.conn.now) = omega (arith, c.rename.ensures.survives.clean) in
    let first = c.in_ok-make_bar_table.ensures.done early live inside in
    ok_then c.rename.result (λ second. record {
      inside = record { was_open = first.inside.was_open; is_open = second.inside.is_open; now_is = refl; committed_is = second.inside.committed_is ∙ first.inside.committed_is; mode = second.inside.mode };
      changed = migrates_second _ _ _ first.changed second.changed;
    }) (c.rename.ensures.done clean first.inside.is_open first.inside.mode)
