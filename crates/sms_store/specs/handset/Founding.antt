-- How a new store is made.
use Rattle.std.specs.Prelude.{◌≡◌, []}
use Rattle.sqlite.specs.Effect.{Database}
use Rattle.sms_store_tables.specs.handset.HandsetSchema.{with_last, handset_schema}
use Rattle.sms_store_sql.specs.schema.Blank.{no_tables}
use Rattle.sms_store.specs.handset.HandsetRows.{IsStore}
use Rattle.sms_store.specs.handset.Types.{Setup, first_rows}

-- the first three tables, without rows
pub record HasFirst (db : Database) : Type 0 where
  pub meta : db.trees 0 ≡ []
  pub entries : db.trees 2 ≡ []
  pub last : db.trees 4 ≡ []

-- and the last three
pub record HasLast (db : Database) : Type 0 where
  pub outbox : db.trees 6 ≡ []
  pub marks : db.trees 8 ≡ []
  pub counters : db.trees 10 ≡ []

abbrev pub MakesFirst : Database → Database → Type 0
MakesFirst before after = before.schema ≡ no_tables → (after.schema ≡ with_last) × HasFirst after

abbrev pub MakesLast : Database → Database → Type 0
MakesLast before after = before.schema ≡ with_last → HasFirst before → (after.schema ≡ handset_schema) × HasFirst after × HasLast after

abbrev pub Tabulates : Database → Database → Type 0
Tabulates before after = before.schema ≡ no_tables → (after.schema ≡ handset_schema) × HasFirst after × HasLast after

-- what the store is, and the first counters
abbrev pub Declares : Database → Database → Type 0
Declares before after = before.schema ≡ handset_schema → HasFirst before → HasLast before → (setup : Setup) → IsStore after (first_rows setup)
