-- The rows of a handset in its store.
use Rattle.std.specs.Prelude.{◌≡◌, [], ◌∷◌, Ok}
use Rattle.sqlite.specs.Effect.{Database}
use Rattle.sms_store_sql.specs.listing.Listing.{Represents}
use Rattle.sms_store_sql.specs.declared.listing.meta.StoreKind.TheVariants.{Handset}
use Rattle.sms_store_tables.specs.handset.HandsetSchema.{handset_schema}
use Rattle.sms_store_tables.specs.handset.MetaList.{meta_list}
use Rattle.sms_store_tables.specs.handset.EntryList.{entry_list}
use Rattle.sms_store_tables.specs.handset.LastAcceptedList.{last_list}
use Rattle.sms_store_tables.specs.handset.OutEntryList.{out_list}
use Rattle.sms_store_tables.specs.handset.DiscardedGroupList.{mark_list}
use Rattle.sms_store.specs.keeping.Stores.{StoresOf}
use Rattle.sms_store.specs.handset.Refusing.{SaysNow, Refuses}
use Rattle.sms_store.specs.handset.CountersList.{count_list}
use Rattle.sms_store.specs.handset.Types.{Rows, Setup, Meta, Counters, CountersRow, first_rows}

-- a handset's store of version 1
abbrev pub handset_meta : Meta
handset_meta = record { version = 1; kind = Handset }

abbrev pub counters_row : Counters → CountersRow
counters_row c = record { counters = c }

-- The database is the store of these rows. The setup is not stored.
pub record IsStore (db : Database) (rows : Rows) : Type 0 where
  pub schema : db.schema ≡ handset_schema
  pub meta : Represents meta_list (db.trees 0) (handset_meta ∷ [])
  pub entries : Represents entry_list (db.trees 2) rows.entries
  pub last : Represents last_list (db.trees 4) rows.last
  pub outbox : Represents out_list (db.trees 6) rows.outbox
  pub marks : Represents mark_list (db.trees 8) rows.marks
  pub counters : Represents count_list (db.trees 10) (counters_row rows.counters ∷ [])

-- what a handset's stores are, of which there was no earlier version
abbrev pub handset_stores : StoresOf Setup Rows
handset_stores = record {
  schema = handset_schema;
  IsStore = IsStore;
  setup_of = λ rows. rows.setup;
  with_setup = λ setup rows. record rows { setup = setup };
  first_rows = first_rows;
  IsEarlier = λ db rows. ⊥;
  raised = λ rows. rows;
  IsOurs = λ db. SaysNow (Ok tt) db;
  Refuses = Refuses;
}
