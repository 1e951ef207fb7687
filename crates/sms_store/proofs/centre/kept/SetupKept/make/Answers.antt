use Rattle.std.proofs.Common.{arith}
use Rattle.sqlite.specs.State.{HasCleanDisk}
use Rattle.sqlite.specs.Held.{state}
use Rattle.sms_store_sql.proofs.listing.Steps.{ok_then}
use Rattle.sms_store.specs.centre.Founding.{Tabulates, Declares}
use Rattle.sms_store.specs.centre.CentreRows.{centre_stores}
use Rattle.sms_store.specs.keeping.Stores.{Founds}
use Rattle.sms_store_tables.proofs.centre.Completed.{leads_then}
use Rattle.sms_store.proofs.centre.TablesMade.{founded}
use Rattle.sms_store.proofs.centre.kept.SetupKept.make.Goals as goal

pub returns-clause-done : goal.returns-clause-done
returns-clause-done g c clean live inside =
    let early : HasCleanDisk (state g.S.Store c.make_tables.new.tx.conn.now) = omega (arith, c.declare.ensures.survives.clean) in
    let first = c.in_ok-make_tables.ensures.done early live inside in
    ok_then c.declare.result (λ h. leads_then Tabulates Declares (Founds centre_stores) _ _ _ founded first h) (c.declare.ensures.done clean first.inside.is_open first.inside.mode)
