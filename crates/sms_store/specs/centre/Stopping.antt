-- What a stop leaves of a store of an earlier version that has become one of version 3.
use Rattle.std.specs.Prelude.{◌≡◌}
use Rattle.sqlite.specs.Effect.{Database}
use Rattle.sqlite.specs.State.{State}
use Rattle.sqlite.specs.Tree.{Trees}
use Rattle.sms_store_migration.specs.Migrating.{migrated}
use Rattle.sms_store_migration.specs.Versions.{IsStore}
use Rattle.sms_store.specs.centre.Migrating.{IsFirstStoreWith, IsSecondStoreWith}
use Rattle.sms_store.specs.centre.Types.{Rows, Setup}

-- Once a store of version 1 or 2 has become one of version 3, a stop leaves that.
pub record LeavesRaised (setup : Setup) (old : Database) (new : State) : Type 0 where
  pub first : (rows : Rows) → IsFirstStoreWith setup old rows → (left : Trees) → new.may_leave left → (left ≡ new.now.trees) × IsStore new.now (migrated rows)
  pub second : (rows : Rows) → IsSecondStoreWith setup old rows → (left : Trees) → new.may_leave left → (left ≡ new.now.trees) × IsStore new.now rows
