use Rattle.std.proofs.Common.{◌≡◌, rules}
use Rattle.sqlite.specs.Held.{state}
use Rattle.sms_store_sql.specs.declared.listing.closing.Health.TheVariants.{InDoubt}
use Rattle.sms_store_sql.proofs.listing.ConnectedCalls.{rested_none, rested_asked, shut_refuses, survives_none}
use Rattle.sms_store_sql.proofs.listing.Steps.{ok_then}
use Rattle.sms_store_sql.proofs.listing.closing.admit.Goals as goal

pub returns-in-Sound-clause-ok : goal.returns-in-Sound-clause-ok
returns-in-Sound-clause-ok g c clean = rested_none (state g.S.Store c.args.conn.now)

pub returns-in-Sound-clause-stop : goal.returns-in-Sound-clause-stop
returns-in-Sound-clause-stop g c = survives_none (state g.S.Store c.args.conn.now) _

pub returns-in-Closed-clause-stop : goal.returns-in-Closed-clause-stop
returns-in-Closed-clause-stop g c = survives_none (state g.S.Store c.args.conn.now) _

pub returns-in-InDoubt-clause-ok : goal.returns-in-InDoubt-clause-ok
returns-in-InDoubt-clause-ok g c clean = ok_then c.ask.result (λ made. rested_asked _ _ made) (c.ask.ensures.ok clean)

pub returns-in-InDoubt-clause-closed : goal.returns-in-InDoubt-clause-closed
returns-in-InDoubt-clause-closed g c clean shut =
    let doubt : c.args.health.now ≡ InDoubt = search rules in
    ok_then c.ask.result (λ made. shut_refuses c.args.health.now (state g.S.Store c.args.conn.now) (state g.S.Store c.ask.new.conn) doubt shut made) (c.ask.ensures.ok clean)
