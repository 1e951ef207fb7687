-- How a store of an earlier version becomes one of version 3. Of version 1 each message has priority 0 then. All other rows stay, and there
-- are no bars.
use Rattle.std.specs.Prelude.{◌≡◌, ◌≢◌, ℕ, [], ◌∷◌, map, List}
use Rattle.sqlite_rules.specs.Edit.{IsNoIndex}
use Rattle.sqlite.specs.Effect.{Database}
use Rattle.sms_store_sql.specs.listing.Listing.{Represents}
use Rattle.sms_store_tables.specs.centre.CentreSchema.{centre_schema}
use Rattle.sms_store_tables.specs.centre.MetaList.{meta_list}
use Rattle.sms_store_tables.specs.centre.PriorityList.{priority_list}
use Rattle.sms_store_tables.specs.centre.MessageList.{message_list}
use Rattle.sms_store_migration.specs.Types.{Rows, MessageRow, PriorityRow}
use Rattle.sms_store_migration.specs.Versions.{IsStore, IsFirstStore, IsSecondStore, centre_meta, meta_of}

abbrev pub lowest : MessageRow → PriorityRow
lowest m = record { id = m.id; priority = 0 }

abbrev pub migrated : Rows → Rows
migrated rows = record rows { priorities = map lowest rows.messages }

-- the other tables stay
abbrev pub KeepsOthers : ℕ → Database → Database → Type 0
KeepsOthers tree before after = (other : ℕ) → other ≢ tree → IsNoIndex centre_schema other → after.trees other ≡ before.trees other

-- each message has a row of priority 0
pub record Ranked (messages : List MessageRow) (before after : Database) : Type 0 where
  pub schema : after.schema ≡ centre_schema
  pub priorities : Represents priority_list (after.trees 12) (map lowest messages)
  pub others : KeepsOthers 12 before after

abbrev pub Ranks : Database → Database → Type 0
Ranks before after =
    before.schema ≡ centre_schema → before.trees 12 ≡ [] → (messages : List MessageRow) → Represents message_list (before.trees 2) messages
    → Ranked messages before after

-- the row that says what the store is says version 3
pub record Renamed (before after : Database) : Type 0 where
  pub schema : after.schema ≡ centre_schema
  pub meta : Represents meta_list (after.trees 0) (centre_meta ∷ [])
  pub others : KeepsOthers 0 before after

-- it said that version
abbrev pub Renames : ℕ → Database → Database → Type 0
Renames version before after = before.schema ≡ centre_schema → Represents meta_list (before.trees 0) (meta_of version ∷ []) → Renamed before after

abbrev pub Migrates : Database → Database → Type 0
Migrates before after = (rows : Rows) → IsFirstStore before rows → IsStore after (migrated rows)

abbrev pub MigratesSecond : Database → Database → Type 0
MigratesSecond before after = (rows : Rows) → IsSecondStore before rows → IsStore after rows
