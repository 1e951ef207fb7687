-- Why a database is no handset's store. No such store is one with other tables, or one that says another kind or a later version. One
-- that does not say what it is is none, too.
use Rattle.std.specs.Prelude.{◌≢◌, ◌⊎◌, Result, Ok, Err}
use Rattle.sqlite.specs.Effect.{Database}
use Rattle.sms_rows.specs.declared.keep.error.KeepError.{KeepError}
use Rattle.sms_rows.specs.declared.keep.error.KeepError.TheVariants.{OldVersion, NotThisStore}
use Rattle.sms_store_sql.specs.declared.listing.meta.StoreKind.TheVariants.{Handset}
use Rattle.sms_store_sql.specs.schema.Blank.{no_tables}
use Rattle.sms_store_tables.specs.handset.HandsetSchema.{handset_schema}
use Rattle.sms_store_tables.specs.handset.MetaList.{meta_list}
use Rattle.sms_store.specs.keeping.Refusing.{Says, RefusesBy}

-- the tables are those of a handset's store, and what it says of itself is judged so
abbrev pub SaysNow : Result (Unit {0}) KeepError → Database → Type 0
SaysNow judgement db = Says handset_schema meta_list Handset 1 judgement db

-- it has tables, which are not those of a handset's store
pub record IsForeign (db : Database) : Type 0 where
  pub some : db.schema ≢ no_tables
  pub other : db.schema ≢ handset_schema

abbrev pub IsOld : Database → Type 0
IsOld db = SaysNow (Err OldVersion) db

abbrev pub IsOther : Database → Type 0
IsOther db = IsForeign db ⊎ SaysNow (Err NotThisStore) db

abbrev pub Refuses : KeepError → Database → Type 0
Refuses error db = RefusesBy IsOld IsOther error db
