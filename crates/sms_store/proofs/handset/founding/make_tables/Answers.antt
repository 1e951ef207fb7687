use Rattle.std.proofs.Common.{arith}
use Rattle.sqlite.specs.State.{HasCleanDisk}
use Rattle.sqlite.specs.Held.{state}
use Rattle.sms_store_sql.proofs.listing.Steps.{ok_then}
use Rattle.sms_store.specs.handset.Founding.{MakesFirst, MakesLast, Tabulates}
use Rattle.sms_store.proofs.handset.Tables.{tables_made}
use Rattle.sms_store_tables.proofs.centre.Completed.{leads_then}
use Rattle.sms_store.proofs.handset.founding.make_tables.Goals as goal

pub returns-clause-done : goal.returns-clause-done
returns-clause-done g c clean live inside =
    let early : HasCleanDisk (state g.S.Store c.make_first_tables.new.tx.conn.now) = omega (arith, c.make_last_tables.ensures.survives.clean) in
    let first = c.in_ok-make_first_tables.ensures.done early live inside in
    ok_then c.make_last_tables.result (λ h. leads_then MakesFirst MakesLast Tabulates _ _ _ tables_made first h) (c.make_last_tables.ensures.done clean first.inside.is_open first.inside.mode)
