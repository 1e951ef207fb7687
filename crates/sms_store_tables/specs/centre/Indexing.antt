-- Indexes that are made for a column that is no key.
use Rattle.std.specs.Prelude.{◌≡◌, ℕ, List, Some, Ok, slice_get}
use Rattle.sqlite.specs.Schema.{Schema}
use Rattle.sqlite.specs.Table.{Table}
use Rattle.sqlite_schema.specs.declared.schema.Index.{Index}
use Rattle.sqlite_schema.specs.declared.command.Command.TheVariants.{CreateIndex}
use Rattle.sqlite.specs.Change.{indexed, KeepsRows}
use Rattle.sqlite.specs.Compile.{index_defined_by}
use Rattle.sqlite.specs.Effect.{Database}
use Rattle.sqlite.specs.Listing.{understood}
use Rattle.sqlite.proofs.Callers.{IsPlain, command_of, statement_of}

-- What makes a text one that adds the index of the table at that place to the schema. All of it holds by computation.
pub record AddsIndex (text : List ℕ) (place : ℕ) (table : Table) (index : Index) (before after : Schema) : Type 0 where
  pub creates : command_of (understood before text) ≡ CreateIndex place
  pub whole : statement_of text (understood before text) ≡ text
  pub alone : IsPlain (understood before text)
  pub there : slice_get before.tables place ≡ Some table
  pub defines : index_defined_by table text ≡ Ok index
  pub indexed_is : indexed before table index ≡ after

-- the index is there, and each table is as it was
pub record Indexes (before after : Schema) (old new : Database) : Type 0 where
  pub schema : new.schema ≡ after
  pub rows : KeepsRows before.tables old.trees new.trees
