-- What the stores of a centre are, of version 3.
use Rattle.std.specs.Prelude.{◌≡◌, ◌⊎◌, Ok}
use Rattle.sqlite.specs.Effect.{Database}
use Rattle.sms_store_tables.specs.centre.CentreSchema.{centre_schema}
use Rattle.sms_store_migration.specs.Migrating.{migrated}
use Rattle.sms_store_migration.specs.Versions.{IsStore, IsFirstStore, IsSecondStore}
use Rattle.sms_store.specs.keeping.Stores.{StoresOf}
use Rattle.sms_store.specs.centre.Refusing.{SaysNow, Refuses}
use Rattle.sms_store.specs.centre.Types.{Rows, Setup, first_rows}

-- the database is a store of version 1, or of version 2, whose rows become these
abbrev pub IsEarlier : Database → Rows → Type 0
IsEarlier db rows = ((first : Rows) × (IsFirstStore db first × (rows ≡ migrated first))) ⊎ IsSecondStore db rows

abbrev pub centre_stores : StoresOf Setup Rows
centre_stores = record {
  schema = centre_schema;
  IsStore = IsStore;
  setup_of = λ rows. rows.setup;
  with_setup = λ setup rows. record rows { setup = setup };
  first_rows = first_rows;
  IsEarlier = IsEarlier;
  raised = λ rows. rows;
  IsOurs = λ db. SaysNow 3 (Ok tt) db;
  Refuses = Refuses 3;
}
