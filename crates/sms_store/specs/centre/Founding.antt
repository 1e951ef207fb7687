-- How a new store is made.
use Rattle.std.specs.Prelude.{◌≡◌, []}
use Rattle.sqlite.specs.Effect.{Database}
use Rattle.sms_store_tables.specs.centre.CentreSchema.{with_part, first_schema, centre_schema}
use Rattle.sms_store_sql.specs.schema.Blank.{no_tables}
use Rattle.sms_store_migration.specs.Versions.{IsStore}
use Rattle.sms_store.specs.centre.Types.{Setup, first_rows}

-- the first three tables, without rows
pub record HasFirst (db : Database) : Type 0 where
  pub meta : db.trees 0 ≡ []
  pub messages : db.trees 2 ≡ []
  pub parts : db.trees 4 ≡ []

-- the next three
pub record HasNext (db : Database) : Type 0 where
  pub references : db.trees 6 ≡ []
  pub handsets : db.trees 8 ≡ []
  pub reports : db.trees 10 ≡ []

-- the last two
pub record HasLast (db : Database) : Type 0 where
  pub priorities : db.trees 12 ≡ []
  pub bars : db.trees 15 ≡ []

abbrev pub MakesFirst : Database → Database → Type 0
MakesFirst before after = before.schema ≡ no_tables → (after.schema ≡ with_part) × HasFirst after

abbrev pub MakesNext : Database → Database → Type 0
MakesNext before after = before.schema ≡ with_part → HasFirst before → (after.schema ≡ first_schema) × HasFirst after × HasNext after

abbrev pub Tabulates : Database → Database → Type 0
Tabulates before after = before.schema ≡ no_tables → (after.schema ≡ centre_schema) × HasFirst after × HasNext after × HasLast after

-- what the store is
abbrev pub Declares : Database → Database → Type 0
Declares before after =
    before.schema ≡ centre_schema → HasFirst before → HasNext before → HasLast before → (setup : Setup) → IsStore after (first_rows setup)
