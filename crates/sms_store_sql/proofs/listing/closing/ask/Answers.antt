use Rattle.sqlite.specs.Held.{state}
use Rattle.sms_store_sql.proofs.listing.ConnectedCalls.{survives_asked}
use Rattle.sms_store_sql.proofs.listing.closing.ask.Goals as goal

pub returns-in-Ok-clause-stop : goal.returns-in-Ok-clause-stop
returns-in-Ok-clause-stop g c = survives_asked (state g.S.Store c.args.conn.now) (state g.S.Store c.transact.new.conn) c.transact.ensures.stop

pub returns-in-Err-clause-stop : goal.returns-in-Err-clause-stop
returns-in-Err-clause-stop g c = survives_asked (state g.S.Store c.args.conn.now) (state g.S.Store c.transact.new.conn) c.transact.ensures.stop

pub returns-in-Err-clause-err : goal.returns-in-Err-clause-err
returns-in-Err-clause-err g c clean settled live = c.in-Err.ensures.err clean live
