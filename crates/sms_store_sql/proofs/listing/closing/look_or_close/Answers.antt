use Rattle.std.proofs.Common.{◌≡◌, IsTrue, ap, arith, subst, sym, ◌∙◌}
use Rattle.sqlite.specs.Effect.{Database}
use Rattle.std.proofs.lemmas.Result.{err_from_is_err_and}
use Rattle.sqlite.specs.Held.{state}
use Rattle.sqlite.specs.State.{HasCleanDisk}
use Rattle.sms_store_sql.specs.listing.Closing.{health_after}
use Rattle.sms_store_sql.proofs.listing.ConnectedCalls.{looked_then, spared_then, schema_then, survives_look, survives_unlooked}
use Rattle.sms_rows.specs.declared.keep.error.KeepError.TheVariants.{NotThisStore}
use Rattle.sms_store_sql.proofs.listing.closing.look_or_close.Goals as goal

pub returns-in-Ok-clause-ok : goal.returns-in-Ok-clause-ok
returns-in-Ok-clause-ok g c clean ours =
    let early : HasCleanDisk (state g.S.Store c.admit.new.conn) = omega (arith, c.survey.ensures.stop.clean) in
    let rest = c.in_ok-admit.ensures.ok early in
    looked_then (g.V.Survey.finds c.args.wanted.now) _ _ _ c.in-Ok.found rest (c.in-Ok.ensures.ok clean (schema_then _ _ _ rest ours))

pub returns-in-Ok-clause-stop : goal.returns-in-Ok-clause-stop
returns-in-Ok-clause-stop g c =
    survives_look (g.V.Survey.schema c.args.wanted.now) (state g.S.Store c.args.conn.now) (state g.S.Store c.admit.new.conn) (state g.S.Store c.survey.new.conn)
    (λ clean. let early : HasCleanDisk (state g.S.Store c.admit.new.conn) = omega (arith, c.survey.ensures.stop.clean) in c.in_ok-admit.ensures.ok early) c.admit.ensures.stop c.survey.ensures.stop

pub returns-in-Err-clause-err : goal.returns-in-Err-clause-err
returns-in-Err-clause-err g c clean ours =
    let early : HasCleanDisk (state g.S.Store c.admit.new.conn) = omega (arith, c.survey.ensures.stop.clean) in
    let rest = c.in_ok-admit.ensures.ok early in
    spared_then (state g.S.Store c.args.conn.now) (state g.S.Store c.admit.new.conn) (state g.S.Store c.survey.new.conn) rest (c.in-Err.ensures.err clean (schema_then _ _ _ rest ours))

pub returns-in-Err-clause-stop : goal.returns-in-Err-clause-stop
returns-in-Err-clause-stop g c =
    survives_look (g.V.Survey.schema c.args.wanted.now) (state g.S.Store c.args.conn.now) (state g.S.Store c.admit.new.conn) (state g.S.Store c.survey.new.conn)
    (λ clean. let early : HasCleanDisk (state g.S.Store c.admit.new.conn) = omega (arith, c.survey.ensures.stop.clean) in c.in_ok-admit.ensures.ok early) c.admit.ensures.stop c.survey.ensures.stop

pub returns-in_err-admit-clause-stop : goal.returns-in_err-admit-clause-stop
returns-in_err-admit-clause-stop g c = survives_unlooked (g.V.Survey.schema c.args.wanted.now) (state g.S.Store c.args.conn.now) (state g.S.Store c.admit.new.conn) c.admit.ensures.stop

pub returns-in-Ok-clause-closed : goal.returns-in-Ok-clause-closed
returns-in-Ok-clause-closed g c clean shut =
    let early : HasCleanDisk (state g.S.Store c.admit.new.conn) = omega (arith, c.survey.ensures.stop.clean) in
    let no : ⊥ = c.in_ok-admit.ensures.closed early shut in absurd no

pub returns-in-Err-clause-closed : goal.returns-in-Err-clause-closed
returns-in-Err-clause-closed g c clean shut =
    let early : HasCleanDisk (state g.S.Store c.admit.new.conn) = omega (arith, c.survey.ensures.stop.clean) in
    let no : ⊥ = c.in_ok-admit.ensures.closed early shut in absurd no

pub returns-in_err-admit-clause-refused : goal.returns-in_err-admit-clause-refused
returns-in_err-admit-clause-refused g c =
    let p = err_from_is_err_and c.from_residual.result c.from_residual.ensures.1 in
    let h = c.in_err-admit.ensures.refused in
    rw (p.1, p.2) (h.1 ∙ sym (ap health_after h.0))

pub returns-in-Err-clause-back : goal.returns-in-Err-clause-back
returns-in-Err-clause-back g c clean ours has same =
    let early : HasCleanDisk (state g.S.Store c.admit.new.conn) = omega (arith, c.survey.ensures.stop.clean) in
    let rest = c.in_ok-admit.ensures.ok early in
    let none = c.in-Err.ensures.back clean (schema_then _ _ _ rest ours) (subst (g.V.Survey.has c.args.wanted.now) (sym rest.now_is) has) in
    let is : c.load_cause_of-cause.result ≡ NotThisStore = cc in
    none (sym c.load_cause_of-cause.ensures ∙ is)

pub returns-in_err-admit-clause-back : goal.returns-in_err-admit-clause-back
returns-in_err-admit-clause-back g c clean ours has same =
    let p = err_from_is_err_and c.from_residual.result c.from_residual.ensures.1 in
    let h = c.in_err-admit.ensures.refused in
    absurd (let is = p.1 in let from = p.2 in let closed = h.0 in cc)
