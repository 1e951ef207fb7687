-- A table of a store, in one list: its name, its columns, and how many of the first of them are its key.
use Rattle.std.specs.Prelude.{ℕ, zero, suc, ◌+◌, true, List, [], ◌∷◌, ◌++◌, map, codes}
use Rattle.sqlite.specs.Table.{Table}
use Rattle.sqlite_schema.specs.declared.schema.Column.{Column}
use Rattle.sqlite_schema.specs.declared.schema.Index.{Index}
use Rattle.sqlite_value.specs.Keys.{plain}
use Rattle.sms_store_sql.specs.listing.Listing.{keyed_table}

pub record TablePlan : Type 0 where
  pub name : List ℕ
  pub columns : List Column
  pub key : ℕ

-- the places of so many columns, from 1
abbrev pub places_from : ℕ → ℕ → List ℕ
places_from at zero = []
places_from at (suc more) = at ∷ places_from (at + 1) more

abbrev pub first_of : {A : Type 0} → ℕ → List A → List A
first_of zero items = []
first_of (suc more) [] = []
first_of (suc more) (item ∷ items) = item ∷ first_of more items

module _ (plan : TablePlan) where
  abbrev pub names_of : List (List ℕ)
  names_of = map (λ (column : Column). column.name) plan.columns

  abbrev pub key_names : List (List ℕ)
  key_names = first_of plan.key names_of

  abbrev pub key_places : List ℕ
  key_places = places_from 1 plan.key

  -- the table as the text that makes it has it, which knows no tree yet
  abbrev pub made : Table
  made = keyed_table plan.name 0 plan.columns key_places

-- the table as a schema has it
abbrev pub defined : ℕ → TablePlan → Table
defined tree plan = keyed_table plan.name tree plan.columns (key_places plan)

-- the index that SQLite makes for the key of a table: its tree is the one behind that of the table
abbrev pub key_index : ℕ → TablePlan → Index
key_index tree plan = record {
  name = codes "sqlite_autoindex_" ++ plan.name ++ codes "_1";
  tree = tree + 1;
  table = tree;
  columns = key_places plan;
  order = plain;
  is_unique = true;
}
