-- A list of rows as a table of a database. Each row of the list is one row of the table, under a rowid of its own.
use Rattle.std.specs.Prelude.{◌≡◌, ℕ, zero, suc, ◌+◌, ◌==◌, ◌/◌, ◌%◌, ◌&&◌, nat_eq, if◌then◌else◌, Bool, ℤ, pos, negsuc, true, false}
use Rattle.std.specs.Prelude.{List, [], ◌∷◌, ◌++◌, map, codes, length, slice_get, Some, None}
use Rattle.std.specs.Prelude.{IsPermutation}
use Rattle.std.specs.List.{list_all, list_any, AllByRecursion}
use Rattle.std.specs.Str.{bytes_eq}
use Rattle.sqlite.specs.Collation.TheVariants.{Binary}
use Rattle.sqlite.specs.declared.types.Value.TheVariants.{Null, Int}
use Rattle.sqlite.specs.Order.{Row}
use Rattle.sqlite.specs.Tree.{Trees}
use Rattle.sqlite.specs.Program.{overlay}
use Rattle.sqlite.specs.Table.{Table}
use Rattle.sqlite.specs.Schema.{Schema}
use Rattle.sqlite.specs.Kind.{Kind}
use Rattle.sqlite.specs.Term.{Term, lit, col, op2, holds}
use Rattle.sqlite.specs.Query.{Query, inner, end}
use Rattle.sqlite.specs.Source.TheVariants.{Values}
use Rattle.sqlite.specs.Command.TheVariants.{Insert, Update, Delete, Select}
use Rattle.sqlite.specs.Listing.{understood, reads_listing}
use Rattle.sqlite_schema.specs.declared.schema.Keys.{Keys}
use Rattle.sqlite_sql.specs.declared.ops.BinaryOp.TheVariants.{Compare}
use Rattle.sqlite_sql.specs.declared.ops.CompareOp.TheVariants.{Eq}
use Rattle.sqlite_sql.specs.Term.{eval_all}
use Rattle.sqlite.specs.Effect.{value_rows}
use Rattle.sqlite_schema.specs.declared.schema.Column.{Column}
use Rattle.sqlite_schema.specs.declared.schema.Index.{Index}
use Rattle.sqlite_schema.specs.Rules.{agree, guards}
use Rattle.sqlite_rules.specs.Action.{works}
use Rattle.sqlite_rules.specs.Cast.{cast_row}
use Rattle.sqlite_value.specs.Keys.{plain}
use Rattle.sqlite_keyed.specs.Keyed.{IsKeyedBy}
use Rattle.sqlite.proofs.Callers.{IsPlain, command_of}
use Rattle.sms_rows.specs.table.Table.{Rises}

-- a column of a STRICT table that holds no NULL
abbrev pub given : List ℕ → Kind → Column
given name kind = record { name = name; kind = kind; is_strict = true; not_null = true; default = Null; collation = Binary }

-- a table of rows by one key, its columns given by their places from 1
abbrev pub keyed_table : List ℕ → ℕ → List Column → List ℕ → Table
keyed_table name tree columns key = record {
  name = name;
  tree = tree;
  columns = columns;
  key = None;
  primary = [];
  uniques = key ∷ [];
  orders = plain ∷ [];
  checks = [];
  references = [];
  computed = [];
  stamps = record { places = []; terms = []; formats = [] };
  is_counted = false;
}

-- the rowids of the rows that pass each test
abbrev pub rowids_where : ℕ → List Term → Query
rowids_where tree tests = record {
  from = inner tree end;
  filter = tests;
  group = None;
  project = col 1 0 ∷ [];
  distinct = false;
  collations = [];
  order = [];
  limit = lit (Int (negsuc 0));
  offset = lit (Int (pos 0));
}

-- every row, as these terms project it
abbrev pub whole_table : ℕ → List Term → Query
whole_table tree shown = record {
  from = inner tree end;
  filter = [];
  group = None;
  project = shown;
  distinct = false;
  collations = [];
  order = [];
  limit = lit (Int (negsuc 0));
  offset = lit (Int (pos 0));
}

-- the rows that pass each test, as these terms project them
abbrev pub rows_where : ℕ → List Term → List Term → Query
rows_where tree tests shown = record {
  from = inner tree end;
  filter = tests;
  group = None;
  project = shown;
  distinct = false;
  collations = [];
  order = [];
  limit = lit (Int (negsuc 0));
  offset = lit (Int (pos 0));
}

-- the column has the given value: both are given by their places, a column's from 1 and a value's from 0
abbrev pub equals : ℕ → ℕ → Term
equals at given = op2 (Compare Eq Binary) (col 1 at) (col 0 given)

-- A list as a table. It says where the table is in the schema of its store. It has the texts that make the table, remove the row of a
-- key, change the row of a key, add a row and read all rows. It has what these texts are compiled to, too.
pub record TableOf : Type 0 where
  pub schema : Schema
  -- the place of the table among those of the schema, from 0, and the number of its tree
  pub place : ℕ
  pub tree : ℕ
  pub name : List ℕ
  pub columns : List Column
  -- the places of the columns that make the key
  pub key : List ℕ
  -- the text that makes it
  pub create : List ℕ
  pub delete : List ℕ
  pub tests : List Term
  pub update : List ℕ
  pub sets : List Term
  pub insert : List ℕ
  pub values : List Term
  pub select : List ℕ
  pub projected : List Term
  pub names : List (List ℕ)

abbrev pub table_of : TableOf → Table
table_of t = keyed_table t.name t.tree t.columns t.key

-- the index that SQLite makes for the key of a table: its tree is the one behind that of the table
abbrev pub key_index_of : TableOf → Index
key_index_of t = record {
  name = codes "sqlite_autoindex_" ++ t.name ++ codes "_1";
  tree = t.tree + 1;
  table = t.tree;
  columns = t.key;
  order = plain;
  is_unique = true;
}

-- a key as the values that find its row, by how many columns it is: a pair's key is that of two numbers
abbrev pub key_values : ℕ → ℕ → Row
key_values width n = if nat_eq width 1 then Int (pos n) ∷ [] else Int (pos (n / 256)) ∷ Int (pos (n % 256)) ∷ []

-- A list of rows: its table, the key of a row, its columns, and the row that columns spell. It also has the columns that
-- find a key, and which rows there are.
pub record ListOf (X : Type 0) : Type 1 where
  pub table : TableOf
  pub key : X → ℕ
  pub columns : X → Row
  pub reads : Row → X
  pub key_columns : ℕ → Row
  pub Fits : X → Type 0

abbrev pub with_rowid : {X : Type 0} → (X → Row) → ℤ × X → Row
with_rowid columns e = Int e.0 ∷ columns e.1

-- The rows of the tree are those of the list, each under a rowid of its own. The list is in the order of its keys.
pub record Represents {X : Type 0} (l : ListOf X) (rows : List Row) (xs : List X) : Type 0 where
  pub entries : List (ℤ × X)
  pub keyed : IsKeyedBy (λ (e : ℤ × X). e.0) entries
  pub stored : rows ≡ map (with_rowid l.columns) entries
  pub listed : IsPermutation (map (λ (e : ℤ × X). e.1) entries) xs
  pub rises : Rises l.key xs
  pub fit : AllByRecursion l.Fits (map (λ (e : ℤ × X). e.1) entries)

-- These are the columns of the rows, in some order, whatever list the tree represents.
abbrev pub AreColumnsOf : {X : Type 0} → ListOf X → List Row → List Row → Type 0
AreColumnsOf {X} l stored shown = (xs : List X) → Represents l stored xs → (ps : List X) × (shown ≡ map l.columns ps) × IsPermutation xs ps

-- the index allows no two rows of the table that agree in these columns
abbrev pub is_key_index : Table → List ℕ → Index → Bool
is_key_index table key i = guards i table && ((i.order.digits == 0) && bytes_eq i.columns key)

-- What makes the texts those of the list. Those before the ones on rows hold by computation.
pub record IsList {X : Type 0} (l : ListOf X) : Type 0 where
  pub there : slice_get l.table.schema.tables l.table.place ≡ Some (table_of l.table)
  pub deletes : command_of (understood l.table.schema l.table.delete)
      ≡ Delete l.table.place (record { lets = []; body = rowids_where l.table.tree l.table.tests })
  pub deletes_alone : IsPlain (understood l.table.schema l.table.delete)
  -- it reads the rowid of the row that it finds, and writes that rowid and these columns
  pub updates : command_of (understood l.table.schema l.table.update)
      ≡ Update l.table.place (record { lets = []; body = rows_where l.table.tree l.table.tests (col 1 0 ∷ col 1 0 ∷ l.table.sets) })
  pub updates_alone : IsPlain (understood l.table.schema l.table.update)
  pub inserts : command_of (understood l.table.schema l.table.insert) ≡ Insert l.table.place (Values l.table.values (length l.table.values))
  pub inserts_alone : IsPlain (understood l.table.schema l.table.insert)
  pub selects : command_of (understood l.table.schema l.table.select)
      ≡ Select (record { lets = []; body = whole_table l.table.tree l.table.projected }) l.table.names
  pub selects_alone : IsPlain (understood l.table.schema l.table.select)
  pub is_no_listing : reads_listing l.table.schema l.table.select ≡ false
  -- the tree is one of the file, and none that a query holds for itself
  pub own_tree : (db : Trees) → overlay db [] l.table.tree ≡ db l.table.tree
  -- no foreign key acts
  pub free : (keys : Keys) (olds news : List Row) → works l.table.schema keys 0 l.table.tree olds news ≡ []
  -- a row is written and read as its columns, which the column's kinds leave as they are
  pub written : (x : X) → value_rows (l.columns x) (length l.table.values) (length l.table.values / length l.table.values) l.table.values
      ≡ (Null ∷ l.columns x) ∷ []
  pub read : (id : ℤ) (x : X) → eval_all l.table.projected ([] ∷ (Int id ∷ l.columns x) ∷ []) ≡ l.columns x
  pub stays : (x : X) → cast_row (table_of l.table) (Null ∷ l.columns x) ≡ Null ∷ l.columns x
  -- the columns of a key find the row of that key, and no other
  pub finds : (n : ℕ) (id : ℤ) (x : X) → l.Fits x → list_all (holds (l.key_columns n ∷ (Int id ∷ l.columns x) ∷ [])) l.table.tests ≡ (l.key x == n)
  -- and so do the columns of a row find the row of its key
  pub meets : (x : X) (id : ℤ) (y : X) → l.Fits x → l.Fits y → list_all (holds (l.columns x ∷ (Int id ∷ l.columns y) ∷ [])) l.table.tests ≡ (l.key y == l.key x)
  -- which then has the columns of the one
  pub sets : (x : X) (id : ℤ) (y : X) → eval_all l.table.sets (l.columns x ∷ (Int id ∷ l.columns y) ∷ []) ≡ l.columns x
  -- no two rows have the columns of one key, by an index of the table, and these are the columns that find a row
  pub guarded : list_any (λ i. is_key_index (table_of l.table) l.table.key i) l.table.schema.indexes ≡ true
  pub agrees : (x : X) (id new : ℤ) (y : X) → agree plain l.table.key (Int id ∷ l.columns y) l.table.key (Int new ∷ l.columns x)
      ≡ list_all (holds (l.columns x ∷ (Int id ∷ l.columns y) ∷ [])) l.table.tests
  -- a row is read back from its columns
  pub reads_back : (x : X) → l.Fits x → l.reads (l.columns x) ≡ x

-- the values of an INSERT: no rowid, and that many of the parameters
abbrev pub given_from : ℕ → ℕ → List Term
given_from at zero = []
given_from at (suc more) = col 0 at ∷ given_from (at + 1) more

abbrev pub row_of : ℕ → List Term
row_of width = lit Null ∷ given_from 0 width

-- that many columns of a row, behind its rowid
abbrev pub columns_from : ℕ → ℕ → List Term
columns_from at zero = []
columns_from at (suc more) = col 1 at ∷ columns_from (at + 1) more

abbrev pub columns_of : ℕ → List Term
columns_of width = columns_from 1 width

-- a column that may hold NULL
abbrev pub optional : List ℕ → Kind → Column
optional name kind = record { name = name; kind = kind; is_strict = true; not_null = false; default = Null; collation = Binary }
