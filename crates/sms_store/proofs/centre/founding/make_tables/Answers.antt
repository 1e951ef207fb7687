use Rattle.std.proofs.Common.{arith}
use Rattle.sqlite.specs.State.{HasCleanDisk}
use Rattle.sqlite.specs.Held.{state}
use Rattle.sms_store_sql.proofs.listing.Steps.{ok_then}
use Rattle.sms_store_tables.specs.centre.Completing.{Completes}
use Rattle.sms_store_tables.proofs.centre.Completed.{leads_then}
use Rattle.sms_store.specs.centre.Founding.{MakesFirst, MakesNext, Tabulates}
use Rattle.sms_store.proofs.centre.TablesMade.{MakesBoth, both_made, tables_made}
use Rattle.sms_store.proofs.centre.founding.make_tables.Goals as goal

pub returns-clause-done : goal.returns-clause-done
returns-clause-done g c clean live inside =
    let second_early : HasCleanDisk (state g.S.Store c.make_next_tables.new.tx.conn.now) = omega (arith, c.complete_tables.ensures.survives.clean) in
    let early : HasCleanDisk (state g.S.Store c.make_first_tables.new.tx.conn.now) = omega (arith, second_early, c.make_next_tables.ensures.survives.clean) in
    let first = c.in_ok-make_first_tables.ensures.done early live inside in
    let both = leads_then MakesFirst MakesNext MakesBoth _ _ _ both_made first (c.in_ok-make_next_tables.ensures.done second_early first.inside.is_open first.inside.mode) in
    ok_then c.complete_tables.result (λ h. leads_then MakesBoth Completes Tabulates _ _ _ tables_made both h) (c.complete_tables.ensures.done clean both.inside.is_open both.inside.mode)
