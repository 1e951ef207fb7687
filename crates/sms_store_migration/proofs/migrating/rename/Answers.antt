use Rattle.std.proofs.Common.{arith, refl, ◌∙◌}
use Rattle.sqlite.specs.State.{HasCleanDisk}
use Rattle.sqlite.specs.Held.{state}
use Rattle.sms_store_sql.proofs.listing.Steps.{ok_then}
use Rattle.sms_store_migration.proofs.Renaming.{renames}
use Rattle.sms_store_migration.proofs.migrating.rename.Goals as goal

pub returns-clause-done : goal.returns-clause-done
returns-clause-done g c clean live inside =
    let early : HasCleanDisk (state g.S.Store c.remove.new.tx.conn.now) = omega (arith, c.put.ensures.survives.clean) in
    let first = rw c.of.ensures at (c.in_ok-remove.ensures.done early live inside) in
    ok_then c.put.result (λ second. record {
      inside = record { was_open = first.inside.was_open; is_open = second.inside.is_open; now_is = refl; committed_is = second.inside.committed_is ∙ first.inside.committed_is; mode = second.inside.mode };
      changed = renames c.args.version _ _ _ first second;
    }) (c.put.ensures.done clean first.inside.is_open first.inside.mode)
