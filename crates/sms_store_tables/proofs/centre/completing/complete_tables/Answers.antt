use Rattle.std.proofs.Common.{arith}
use Rattle.sqlite.specs.State.{HasCleanDisk}
use Rattle.sqlite.specs.Held.{state}
use Rattle.sms_store_sql.proofs.listing.Steps.{ok_then}
use Rattle.sms_store_tables.specs.centre.Completing.{Completes, MakesBars, MakesSecond}
use Rattle.sms_store_tables.proofs.centre.Completed.{completed, leads_then}
use Rattle.sms_store_tables.proofs.centre.completing.complete_tables.Goals as goal

pub returns-clause-done : goal.returns-clause-done
returns-clause-done g c clean live inside =
    let early : HasCleanDisk (state g.S.Store c.make_second_tables.new.tx.conn.now) = omega (arith, c.make_bar_table.ensures.survives.clean) in
    let first = c.in_ok-make_second_tables.ensures.done early live inside in
    ok_then c.make_bar_table.result (λ h. leads_then MakesSecond MakesBars Completes _ _ _ completed first h) (c.make_bar_table.ensures.done clean first.inside.is_open first.inside.mode)
