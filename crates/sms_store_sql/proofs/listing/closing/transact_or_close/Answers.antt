use Rattle.std.proofs.Common.{◌≡◌, IsTrue, ap, arith, sym, ◌∙◌}
use Rattle.std.proofs.lemmas.Result.{err_from_is_err_and}
use Rattle.sqlite.specs.Held.{state}
use Rattle.sqlite.specs.State.{HasCleanDisk}
use Rattle.sms_store_sql.specs.listing.Closing.{health_after}
use Rattle.sms_store_sql.proofs.listing.ConnectedCalls.{committed_then, spared_then, survives_change, survives_refused}
use Rattle.sms_store_sql.proofs.listing.closing.transact_or_close.Goals as goal

pub returns-in-Ok-clause-ok : goal.returns-in-Ok-clause-ok
returns-in-Ok-clause-ok g c clean =
    let early : HasCleanDisk (state g.S.Store c.admit.new.conn) = omega (arith, c.transact.ensures.stop.clean) in
    committed_then (g.W.Work.changes c.args.work.now) _ _ _ (c.in_ok-admit.ensures.ok early) (c.in-Ok.ensures.ok clean)

pub returns-in-Ok-clause-stop : goal.returns-in-Ok-clause-stop
returns-in-Ok-clause-stop g c =
    survives_change (g.W.Work.changes c.args.work.now) (state g.S.Store c.args.conn.now) (state g.S.Store c.admit.new.conn) (state g.S.Store c.transact.new.conn)
    (λ clean. let early : HasCleanDisk (state g.S.Store c.admit.new.conn) = omega (arith, c.transact.ensures.stop.clean) in c.in_ok-admit.ensures.ok early) c.admit.ensures.stop c.transact.ensures.stop

pub returns-in-Err-clause-err : goal.returns-in-Err-clause-err
returns-in-Err-clause-err g c clean =
    let early : HasCleanDisk (state g.S.Store c.admit.new.conn) = omega (arith, c.transact.ensures.stop.clean) in
    spared_then (state g.S.Store c.args.conn.now) (state g.S.Store c.admit.new.conn) (state g.S.Store c.transact.new.conn) (c.in_ok-admit.ensures.ok early) (c.in-Err.ensures.err clean)

pub returns-in-Err-clause-stop : goal.returns-in-Err-clause-stop
returns-in-Err-clause-stop g c =
    survives_change (g.W.Work.changes c.args.work.now) (state g.S.Store c.args.conn.now) (state g.S.Store c.admit.new.conn) (state g.S.Store c.transact.new.conn)
    (λ clean. let early : HasCleanDisk (state g.S.Store c.admit.new.conn) = omega (arith, c.transact.ensures.stop.clean) in c.in_ok-admit.ensures.ok early) c.admit.ensures.stop c.transact.ensures.stop

pub returns-in_err-admit-clause-stop : goal.returns-in_err-admit-clause-stop
returns-in_err-admit-clause-stop g c = survives_refused (g.W.Work.changes c.args.work.now) (state g.S.Store c.args.conn.now) (state g.S.Store c.admit.new.conn) (state g.S.Store c.admit.new.conn) c.admit.ensures.stop

pub returns-in-Ok-clause-closed : goal.returns-in-Ok-clause-closed
returns-in-Ok-clause-closed g c clean shut =
    let early : HasCleanDisk (state g.S.Store c.admit.new.conn) = omega (arith, c.transact.ensures.stop.clean) in
    let no : ⊥ = c.in_ok-admit.ensures.closed early shut in absurd no

pub returns-in-Err-clause-closed : goal.returns-in-Err-clause-closed
returns-in-Err-clause-closed g c clean shut =
    let early : HasCleanDisk (state g.S.Store c.admit.new.conn) = omega (arith, c.transact.ensures.stop.clean) in
    let no : ⊥ = c.in_ok-admit.ensures.closed early shut in absurd no

pub returns-in_err-admit-clause-refused : goal.returns-in_err-admit-clause-refused
returns-in_err-admit-clause-refused g c =
    let p = err_from_is_err_and c.from_residual.result c.from_residual.ensures.1 in
    let h = c.in_err-admit.ensures.refused in
    rw (p.1, p.2) (h.1 ∙ sym (ap health_after h.0))
