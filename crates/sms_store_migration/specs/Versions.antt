-- The store of a centre's rows: version 1; version 2, which has the priorities of messages too; and version 3, which has the bars.
use Rattle.std.specs.Prelude.{◌≡◌, ℕ, [], ◌∷◌}
use Rattle.sqlite.specs.Effect.{Database}
use Rattle.sqlite.specs.Schema.{Schema}
use Rattle.sqlite.specs.Tree.{Trees}
use Rattle.sms_store_sql.specs.listing.Listing.{Represents}
use Rattle.sms_store_sql.specs.declared.listing.meta.StoreKind.TheVariants.{Centre}
use Rattle.sms_store_tables.specs.centre.CentreSchema.{centre_schema, first_schema, second_schema}
use Rattle.sms_store_tables.specs.centre.BarList.{bar_list}
use Rattle.sms_store_sql.specs.tabled.MetaTable.{meta_list_in}
use Rattle.sms_store_tables.specs.centre.MessageList.{message_list}
use Rattle.sms_store_tables.specs.centre.PartList.{part_list}
use Rattle.sms_store_tables.specs.centre.ReferenceList.{reference_list}
use Rattle.sms_store_tables.specs.centre.HandsetList.{handset_list}
use Rattle.sms_store_tables.specs.centre.ReportList.{report_list}
use Rattle.sms_store_tables.specs.centre.PriorityList.{priority_list}
use Rattle.sms_store_migration.specs.Types.{Rows, Meta}

-- what a centre's store of that version says of itself
abbrev pub meta_of : ℕ → Meta
meta_of version = record { version = version; kind = Centre }

abbrev pub centre_meta : Meta
centre_meta = meta_of 3

abbrev pub second_meta : Meta
second_meta = meta_of 2

abbrev pub first_meta : Meta
first_meta = meta_of 1

-- The database is a store of these rows, of these tables and that version, with such priorities and bars. The setup is not stored.
pub record IsStoreOf (tables : Schema) (version : ℕ) (HasPriorities HasBars : Database → Rows → Type 0) (db : Database) (rows : Rows) : Type 0 where
  pub schema : db.schema ≡ tables
  pub meta : Represents (meta_list_in tables) (db.trees 0) (meta_of version ∷ [])
  pub messages : Represents message_list (db.trees 2) rows.messages
  pub parts : Represents part_list (db.trees 4) rows.parts
  pub references : Represents reference_list (db.trees 6) rows.references
  pub handsets : Represents handset_list (db.trees 8) rows.handsets
  pub reports : Represents report_list (db.trees 10) rows.reports
  pub priorities : HasPriorities db rows
  pub bars : HasBars db rows

-- the tables of priorities and of bars, and rows without them
abbrev pub HasPriorities : Database → Rows → Type 0
HasPriorities db rows = Represents priority_list (db.trees 12) rows.priorities

abbrev pub HasBars : Database → Rows → Type 0
HasBars db rows = Represents bar_list (db.trees 15) rows.bars

abbrev pub LacksPriorities : Database → Rows → Type 0
LacksPriorities db rows = rows.priorities ≡ []

abbrev pub LacksBars : Database → Rows → Type 0
LacksBars db rows = rows.bars ≡ []

abbrev pub IsStore : Database → Rows → Type 0
IsStore db rows = IsStoreOf centre_schema 3 HasPriorities HasBars db rows

-- version 2 has no bars
abbrev pub IsSecondStore : Database → Rows → Type 0
IsSecondStore db rows = IsStoreOf second_schema 2 HasPriorities LacksBars db rows

-- version 1 has no priorities either
abbrev pub IsFirstStore : Database → Rows → Type 0
IsFirstStore db rows = IsStoreOf first_schema 1 LacksPriorities LacksBars db rows

-- ---- the trees are those of the store of these rows
abbrev pub AreStore : Trees → Rows → Type 0
AreStore trees rows = (db : Database) × (trees ≡ db.trees) × IsStore db rows
