use Rattle.sqlite.specs.Held.{state}
use Rattle.sms_store_migration.specs.Migrating.{MigratesSecond}
use Rattle.sms_store_migration.specs.Versions.{IsSecondStore}
use Rattle.sms_store_migration.proofs.Renaming.{stop_raises}
use Rattle.sms_store_migration.proofs.migrating.raise_second.Goals as goal

pub returns-in-Ok-clause-stop : goal.returns-in-Ok-clause-stop
returns-in-Ok-clause-stop g c clean rows kept left may =
    let conn = c.args.conn.now in
    stop_raises IsSecondStore MigratesSecond (λ rows. rows) (λ a b made. made) (state g.S.Store conn) (state g.S.Store c.transact.new.conn) rows left kept (λ db open_yet earlier. g.met.S.Store.settled conn.store db open_yet earlier) (c.transact.ensures.stop.crash clean) may

pub returns-in-Err-clause-stop : goal.returns-in-Err-clause-stop
returns-in-Err-clause-stop g c clean rows kept left may =
    let conn = c.args.conn.now in
    stop_raises IsSecondStore MigratesSecond (λ rows. rows) (λ a b made. made) (state g.S.Store conn) (state g.S.Store c.transact.new.conn) rows left kept (λ db open_yet earlier. g.met.S.Store.settled conn.store db open_yet earlier) (c.transact.ensures.stop.crash clean) may
