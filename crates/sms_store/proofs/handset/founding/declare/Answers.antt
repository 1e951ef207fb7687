use Rattle.std.proofs.Common.{arith, refl, ◌∙◌}
use Rattle.sqlite.specs.State.{HasCleanDisk}
use Rattle.sqlite.specs.Held.{state}
use Rattle.sms_store_sql.proofs.listing.Steps.{ok_then}
use Rattle.sms_store.proofs.handset.Tables.{declared}
use Rattle.sms_store.proofs.handset.founding.declare.Goals as goal

pub returns-clause-done : goal.returns-clause-done
returns-clause-done g c clean live inside =
    let early : HasCleanDisk (state g.S.Store c.put.new.tx.conn.now) = omega (arith, c.put-2.ensures.survives.clean) in
    let first = c.in_ok-put.ensures.done early live inside in
    ok_then c.put-2.result (λ second. record {
      inside = record { was_open = first.inside.was_open; is_open = second.inside.is_open; now_is = refl; committed_is = second.inside.committed_is ∙ first.inside.committed_is; mode = second.inside.mode };
      changed = declared _ _ _ first second;
    }) (c.put-2.ensures.done clean first.inside.is_open first.inside.mode)
