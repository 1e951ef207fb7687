use Rattle.sqlite.specs.Held.{state}
use Rattle.sms_store_migration.specs.Migrating.{Migrates, migrated}
use Rattle.sms_store_migration.specs.Versions.{IsFirstStore}
use Rattle.sms_store_migration.proofs.Renaming.{stop_raises}
use Rattle.sms_store_migration.proofs.migrating.raise.Goals as goal

pub returns-in-Ok-clause-stop : goal.returns-in-Ok-clause-stop
returns-in-Ok-clause-stop g c clean rows kept left may =
    let conn = c.args.conn.now in
    stop_raises IsFirstStore Migrates migrated (λ a b made. made) (state g.S.Store conn) (state g.S.Store c.transact.new.conn) rows left kept (λ db open_yet earlier. g.met.S.Store.settled conn.store db open_yet earlier) (c.transact.ensures.stop.crash clean) may

pub returns-in-Err-clause-stop : goal.returns-in-Err-clause-stop
returns-in-Err-clause-stop g c clean rows kept left may =
    let conn = c.args.conn.now in
    stop_raises IsFirstStore Migrates migrated (λ a b made. made) (state g.S.Store conn) (state g.S.Store c.transact.new.conn) rows left kept (λ db open_yet earlier. g.met.S.Store.settled conn.store db open_yet earlier) (c.transact.ensures.stop.crash clean) may
