use Rattle.std.proofs.Common.{arith}
use Rattle.sqlite.specs.State.{HasCleanDisk}
use Rattle.sqlite.specs.Held.{state}
use Rattle.sms_store_sql.proofs.listing.Steps.{ok_then}
use Rattle.sms_store_tables.specs.centre.Completing.{IndexesReports, MakesPriority, MakesSecond}
use Rattle.sms_store_tables.proofs.centre.Completed.{leads_then, second_made}
use Rattle.sms_store_tables.proofs.centre.completing.make_second_tables.Goals as goal

pub returns-clause-done : goal.returns-clause-done
returns-clause-done g c clean live inside =
    let early : HasCleanDisk (state g.S.Store c.make_priority_table.new.tx.conn.now) = omega (arith, c.index_reports.ensures.survives.clean) in
    let first = c.in_ok-make_priority_table.ensures.done early live inside in
    ok_then c.index_reports.result (λ h. leads_then MakesPriority IndexesReports MakesSecond _ _ _ second_made first h) (c.index_reports.ensures.done clean first.inside.is_open first.inside.mode)
