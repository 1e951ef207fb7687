-- A list in a database.
use Rattle.std.specs.Prelude.{◌≡◌, List}
use Rattle.sqlite.specs.Effect.{Database}
use Rattle.sms_store_sql.specs.listing.Listing.{ListOf, Represents}

module _ {X : Type 0} (l : ListOf X) (db : Database) where
  -- the tables are those of its schema
  abbrev pub KnowsList : Type 0
  KnowsList = db.schema ≡ l.table.schema

  -- it is there
  abbrev pub HoldsList : Type 0
  HoldsList = (xs : List X) × Represents l (db.trees l.table.tree) xs

  -- these are its rows, if it is there
  abbrev pub FindsList : List X → Type 0
  FindsList found = (xs : List X) → Represents l (db.trees l.table.tree) xs → found ≡ xs
