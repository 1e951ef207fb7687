-- What a keep has of a store of version 1 or 2, which is one of version 3 then.
use Rattle.std.specs.Prelude.{◌≡◌, ◌⊎◌, Ok}
use Rattle.sqlite.specs.Effect.{Database}
use Rattle.sqlite.specs.State.{State}
use Rattle.sms_store_sql.specs.listing.Transaction.{IsOpenStore}
use Rattle.sms_store_sql.specs.schema.Blank.{no_tables}
use Rattle.sms_store_migration.specs.Migrating.{migrated}
use Rattle.sms_store_migration.specs.Versions.{IsFirstStore, IsSecondStore}
use Rattle.sms_store.specs.keeping.Stores.{IsStoreWith}
use Rattle.sms_store.specs.centre.CentreRows.{centre_stores}
use Rattle.sms_store.specs.centre.Refusing.{SaysFirst, SaysNow, SaysSecond}
use Rattle.sms_store.specs.centre.Types.{Rows, Setup, first_rows}

abbrev pub IsFirstStoreWith : Setup → Database → Rows → Type 0
IsFirstStoreWith setup db rows = IsFirstStore db rows × (rows.setup ≡ setup)

abbrev pub IsSecondStoreWith : Setup → Database → Rows → Type 0
IsSecondStoreWith setup db rows = IsSecondStore db rows × (rows.setup ≡ setup)

-- what a keep has of the database that it was migrated or opened over
pub record Migrated (setup : Setup) (old : Database) (new : State) : Type 0 where
  pub founded : old.schema ≡ no_tables → IsOpenStore (IsStoreWith centre_stores setup) new (first_rows setup)
  pub unchanged : (rows : Rows) → IsStoreWith centre_stores setup old rows → IsOpenStore (IsStoreWith centre_stores setup) new rows
  pub raised : (rows : Rows) → IsFirstStoreWith setup old rows → IsOpenStore (IsStoreWith centre_stores setup) new (migrated rows)
  pub raised_second : (rows : Rows) → IsSecondStoreWith setup old rows → IsOpenStore (IsStoreWith centre_stores setup) new rows
  pub ours : (old.schema ≡ no_tables) ⊎ (SaysNow 3 (Ok tt) old ⊎ (SaysSecond 2 (Ok tt) old ⊎ SaysFirst 1 (Ok tt) old))

-- the same, whatever the setup
abbrev pub IsMigrated : Database → State → Type 0
IsMigrated old new = (setup : Setup) → Migrated setup old new
