-- What an earlier version of a centre's store lacks is made.
use Rattle.std.specs.Prelude.{◌≡◌, []}
use Rattle.sqlite.specs.Change.{KeepsRows}
use Rattle.sqlite.specs.Effect.{Database}
use Rattle.sms_store_sql.specs.listing.Making.{Makes}
use Rattle.sms_store_tables.specs.centre.CentreSchema.{centre_schema, first_schema, second_schema, with_priority}
use Rattle.sms_store_tables.specs.centre.Indexing.{Indexes}

-- the table that version 1 lacks
abbrev pub MakesPriority : Database → Database → Type 0
MakesPriority before after = before.schema ≡ first_schema → Makes first_schema with_priority before after

-- the index that version 1 lacks
abbrev pub IndexesReports : Database → Database → Type 0
IndexesReports before after = before.schema ≡ with_priority → Indexes with_priority second_schema before after

-- both
abbrev pub MakesSecond : Database → Database → Type 0
MakesSecond before after = before.schema ≡ first_schema → Makes first_schema second_schema before after

-- the table that version 2 lacks
abbrev pub MakesBars : Database → Database → Type 0
MakesBars before after = before.schema ≡ second_schema → Makes second_schema centre_schema before after

-- all of it: both new tables are empty
pub record Completed (before after : Database) : Type 0 where
  pub schema : after.schema ≡ centre_schema
  pub ranks : after.trees 12 ≡ []
  pub bars : after.trees 15 ≡ []
  pub others : KeepsRows first_schema.tables before.trees after.trees

abbrev pub Completes : Database → Database → Type 0
Completes before after = before.schema ≡ first_schema → Completed before after
