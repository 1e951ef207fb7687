-- Tables that are made.
use Rattle.std.specs.Prelude.{◌≡◌, ℕ, false, List, [], Ok}
use Rattle.sqlite.specs.Schema.{Schema}
use Rattle.sqlite.specs.Table.{Table}
use Rattle.sqlite.specs.Command.TheVariants.{CreateTable}
use Rattle.sqlite.specs.Change.{created, next_tree, KeepsRows}
use Rattle.sqlite.specs.Compile.{table_defined_by}
use Rattle.sqlite.specs.Does.{lacks_sequence}
use Rattle.sqlite.specs.Effect.{Database}
use Rattle.sqlite.specs.Listing.{understood}
use Rattle.sqlite.proofs.Callers.{IsPlain, command_of, statement_of}

-- What makes a text one that adds the table to the schema. All of it holds by computation.
pub record Adds (text : List ℕ) (table : Table) (before after : Schema) : Type 0 where
  pub creates : command_of (understood before text) ≡ CreateTable
  pub whole : statement_of text (understood before text) ≡ text
  pub alone : IsPlain (understood before text)
  pub defines : table_defined_by text ≡ Ok table
  pub created_is : created before table ≡ after
  pub unnumbered : lacks_sequence after ≡ false

-- the table is there, without rows, and each other table is as it was
pub record Makes (before after : Schema) (old new : Database) : Type 0 where
  pub schema : new.schema ≡ after
  pub empty : new.trees (next_tree before) ≡ []
  pub others : KeepsRows before.tables old.trees new.trees
