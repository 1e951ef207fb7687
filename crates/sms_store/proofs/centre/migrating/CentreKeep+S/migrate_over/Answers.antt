use Rattle.sqlite.specs.Held.{state}
use Rattle.sms_store.proofs.centre.Raised.{leaves_raised}
use Rattle.sms_store.proofs.centre.migrating.CentreKeep+S.migrate_over.Goals as goal

pub returns-in-Ok-clause-migrated : goal.returns-in-Ok-clause-migrated
returns-in-Ok-clause-migrated g c clean = c.in-Ok.ensures.ok clean c.args.setup

pub returns-in-Ok-clause-settled : goal.returns-in-Ok-clause-settled
returns-in-Ok-clause-settled g c clean =
    let conn = c.ready_raised.new.conn in
    leaves_raised c.args.setup _ (state g.S.Store conn) (λ db open_yet may. g.met.S.Store.settled conn.store db open_yet may) (c.in-Ok.ensures.ok clean c.args.setup)

pub returns-in-Err-clause-refused : goal.returns-in-Err-clause-refused
returns-in-Err-clause-refused g c clean = (c.in-Err.ensures.err clean).0

pub returns-in-Err-clause-unchanged : goal.returns-in-Err-clause-unchanged
returns-in-Err-clause-unchanged g c clean = (c.in-Err.ensures.err clean).1

pub returns-in-Err-clause-stop : goal.returns-in-Err-clause-stop
returns-in-Err-clause-stop g c = c.ready_raised.ensures.stop
