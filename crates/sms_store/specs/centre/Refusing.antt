-- Why a database is no centre's store of the wanted version. Where version 3 is wanted, each earlier one is refused as such. Where an
-- earlier one will do, of its tables only those below it. No such store is one with other tables, or one that says another kind or a later
-- version. One that does not say what it is is none, too.
use Rattle.std.specs.Prelude.{◌≡◌, ◌≢◌, ◌⊎◌, ℕ, max, Result, Ok, Err}
use Rattle.sqlite.specs.Effect.{Database}
use Rattle.sqlite.specs.Schema.{Schema}
use Rattle.sms_rows.specs.declared.keep.error.KeepError.{KeepError}
use Rattle.sms_rows.specs.declared.keep.error.KeepError.TheVariants.{OldVersion, NotThisStore}
use Rattle.sms_store_sql.specs.declared.listing.meta.StoreKind.TheVariants.{Centre}
use Rattle.sms_store_sql.specs.schema.Blank.{no_tables}
use Rattle.sms_store_sql.specs.tabled.MetaTable.{meta_list_in}
use Rattle.sms_store_tables.specs.centre.CentreSchema.{centre_schema, first_schema, second_schema}
use Rattle.sms_store_tables.specs.centre.MetaList.{first_list, meta_list, second_list}
use Rattle.sms_store.specs.keeping.Refusing.{Says, RefusesBy, RefusesSaid}

-- it has the tables of version 3, of version 2 or of version 1, and what it says of itself is judged so
abbrev pub SaysNow : ℕ → Result (Unit {0}) KeepError → Database → Type 0
SaysNow version judgement db = Says centre_schema meta_list Centre version judgement db

abbrev pub SaysSecond : ℕ → Result (Unit {0}) KeepError → Database → Type 0
SaysSecond version judgement db = Says second_schema second_list Centre version judgement db

abbrev pub SaysFirst : ℕ → Result (Unit {0}) KeepError → Database → Type 0
SaysFirst version judgement db = Says first_schema first_list Centre version judgement db

-- Why a database without the tables of an earlier version is refused. It is no store also where it has tables, which are not those of
-- version 3.
abbrev pub IsOldNow : Database → Type 0
IsOldNow db = SaysNow 3 (Err OldVersion) db

abbrev pub IsOtherNow : Database → Type 0
IsOtherNow db = ((db.schema ≢ no_tables) × (db.schema ≢ centre_schema)) ⊎ SaysNow 3 (Err NotThisStore) db

abbrev pub RefusesNow : KeepError → Database → Type 0
RefusesNow error db = RefusesBy IsOldNow IsOtherNow error db

-- it has tables, which are those of no version
pub record IsForeign (db : Database) : Type 0 where
  pub some : db.schema ≢ no_tables
  pub other : db.schema ≢ centre_schema
  pub other_second : db.schema ≢ second_schema
  pub other_first : db.schema ≢ first_schema

-- of the tables of version 2 no version below that one will do
abbrev pub IsOld : ℕ → Database → Type 0
IsOld least db = SaysNow 3 (Err OldVersion) db ⊎ (SaysSecond (max 2 least) (Err OldVersion) db ⊎ SaysFirst least (Err OldVersion) db)

abbrev pub IsOther : Database → Type 0
IsOther db = IsForeign db ⊎ (SaysNow 3 (Err NotThisStore) db ⊎ (SaysSecond 2 (Err NotThisStore) db ⊎ SaysFirst 1 (Err NotThisStore) db))

-- why a database is refused by one for whom this version will do
abbrev pub Refuses : ℕ → KeepError → Database → Type 0
Refuses least error db = RefusesBy (IsOld least) IsOther error db

-- One with these tables of an earlier version is refused so by one who wants version 3, also where it says that it is of that version.
abbrev pub RefusesEarlier : Schema → KeepError → Database → Type 0
RefusesEarlier schema error db =
    RefusesSaid schema (meta_list_in schema) Centre 3 error db ⊎ ((error ≡ NotThisStore) × Says schema (meta_list_in schema) Centre 3 (Ok tt) db)
