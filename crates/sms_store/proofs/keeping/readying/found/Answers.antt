use Rattle.sqlite.specs.Held.{state}
use Rattle.sms_store.proofs.keeping.StoresKept.{kept_founded}
use Rattle.sms_store.proofs.keeping.Leaving.{left_by_founding}
use Rattle.sms_store.proofs.keeping.readying.found.Goals as goal

pub returns-in-Ok-clause-ok : goal.returns-in-Ok-clause-ok
returns-in-Ok-clause-ok g c clean none setup = kept_founded g.P.Kept.stores g.met.P.Kept.lawful setup _ _ (c.in-Ok.ensures.ok clean) none

pub returns-in-Ok-clause-stop : goal.returns-in-Ok-clause-stop
returns-in-Ok-clause-stop g c none clean left may =
    let conn = c.args.conn.now in
    left_by_founding g.P.Kept.stores g.met.P.Kept.lawful (state g.S.Store conn) (state g.S.Store c.transact.new.conn) left
    (λ db open_yet earlier. g.met.S.Store.settled conn.store db open_yet earlier) none (c.transact.ensures.stop.crash clean left) may

pub returns-in-Err-clause-stop : goal.returns-in-Err-clause-stop
returns-in-Err-clause-stop g c none clean left may =
    let conn = c.args.conn.now in
    left_by_founding g.P.Kept.stores g.met.P.Kept.lawful (state g.S.Store conn) (state g.S.Store c.transact.new.conn) left
    (λ db open_yet earlier. g.met.S.Store.settled conn.store db open_yet earlier) none (c.transact.ensures.stop.crash clean left) may
