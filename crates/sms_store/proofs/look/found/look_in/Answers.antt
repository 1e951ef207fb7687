use Rattle.std.proofs.Common.{◌≡◌, sym, subst}
use Rattle.sqlite.specs.Held.{state}
use Rattle.sqlite.specs.State.{HasCleanDisk}
use Rattle.sms_store_sql.specs.listing.Transaction.{IsOpenStore}
use Rattle.sms_store_migration.specs.Versions.{IsStore}
use Rattle.sms_store.proofs.look.Keeping.{still}
use Rattle.sms_store.proofs.look.found.look_in.Goals as goal

pub returns-clause-found : goal.returns-clause-found
returns-clause-found g c clean rows kept =
    let e = c.into_connection.ensures in
    let found = c.in_ok-rows.ensures.outcome rows (subst (λ conn. HasCleanDisk (state g.S.Store conn)) e clean) kept in
    (found.0, subst (λ conn. IsOpenStore IsStore (state g.S.Store conn) rows) (sym e) (still _ _ rows found.1))
