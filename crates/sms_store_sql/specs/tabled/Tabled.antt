-- Tables of plans in a schema, and what makes such a table with its rows a list.
use Rattle.std.specs.Prelude.{◌≡◌, ℕ, ◌+◌, ◌==◌, ◌/◌, ◌%◌, ℤ, false, true, List, [], ◌∷◌, length, slice_get, Some}
use Rattle.std.specs.List.{list_all, list_any}
use Rattle.sqlite.specs.declared.types.Value.TheVariants.{Null, Int}
use Rattle.sqlite.specs.Effect.{value_rows}
use Rattle.sqlite.specs.Order.{Row}
use Rattle.sqlite.specs.Program.{overlay}
use Rattle.sqlite.specs.Schema.{Schema}
use Rattle.sqlite.specs.Tree.{Trees}
use Rattle.sqlite.specs.Term.{Term, col, holds}
use Rattle.sqlite.specs.Source.TheVariants.{Values}
use Rattle.sqlite.specs.Command.{Command}
use Rattle.sqlite.specs.Command.TheVariants.{Insert, Update, Delete, Select}
use Rattle.sqlite.specs.Listing.{understood, reads_listing}
use Rattle.sqlite.proofs.Callers.{IsPlain, command_of}
use Rattle.sqlite_rules.specs.Action.{works}
use Rattle.sqlite_schema.specs.declared.schema.Keys.{Keys}
use Rattle.sqlite_schema.specs.Rules.{agree}
use Rattle.sqlite_sql.specs.Term.{eval_all}
use Rattle.sqlite_value.specs.Keys.{plain}
use Rattle.sms_store_sql.specs.listing.Listing.{TableOf, ListOf, table_of, rowids_where, rows_where, whole_table, given_from, row_of, columns_of}
use Rattle.sms_store_sql.specs.listing.Listing.{equals, is_key_index}
use Rattle.sms_store_sql.specs.listing.Columns.{number}
use Rattle.sms_store_sql.specs.listing.Making.{Adds}
use Rattle.sms_store_sql.specs.tabled.TablePlan.{TablePlan, names_of, key_places, made}
use Rattle.sms_store_sql.specs.tabled.Texts.{create_text, delete_text, update_text, insert_text, select_text}

-- so many columns from a place are the parameters from one
abbrev pub tests_from : ℕ → List ℕ → List Term
tests_from given [] = []
tests_from given (place ∷ more) = equals place given ∷ tests_from (given + 1) more

-- the table of a plan, at a place of the schema and in a tree
abbrev pub tabled : Schema → ℕ → ℕ → TablePlan → TableOf
tabled schema place tree plan = record {
  schema = schema;
  place = place;
  tree = tree;
  name = plan.name;
  columns = plan.columns;
  key = key_places plan;
  create = create_text plan;
  delete = delete_text plan;
  tests = tests_from 0 (key_places plan);
  update = update_text plan;
  sets = given_from 0 (length plan.columns);
  insert = insert_text plan;
  values = row_of (length plan.columns);
  select = select_text plan;
  projected = columns_of (length plan.columns);
  names = names_of plan;
}

-- The rows of a table: the key of a row, its columns, the row that columns spell, and which rows there are. One number finds a row.
abbrev pub rows_by_one : (X : Type 0) → TableOf → (X → ℕ) → (X → Row) → (Row → X) → (X → Type 0) → ListOf X
rows_by_one X table key columns reads Fits =
    record { table = table; key = key; columns = columns; reads = reads; key_columns = λ n. number n ∷ []; Fits = Fits }

-- and the same where two numbers find a row
abbrev pub rows_by_two : (X : Type 0) → TableOf → (X → ℕ) → (X → Row) → (Row → X) → (X → Type 0) → ListOf X
rows_by_two X table key columns reads Fits =
    record { table = table; key = key; columns = columns; reads = reads; key_columns = λ n. number (n / 256) ∷ number (n % 256) ∷ []; Fits = Fits }

-- its text adds the table to the schema
abbrev pub AddsPlan : TablePlan → Schema → Schema → Type 0
AddsPlan plan before after = Adds (create_text plan) (made plan) before after

-- the text is compiled to this command, and does nothing beside it
abbrev pub IsCompiledTo : TableOf → List ℕ → Command → Type 0
IsCompiledTo t text command = (command_of (understood t.schema text) ≡ command) × IsPlain (understood t.schema text)

abbrev pub HasOwnTree : TableOf → Type 0
HasOwnTree t = (db : Trees) → overlay db [] t.tree ≡ db t.tree

abbrev pub IsFreeOfRules : TableOf → Type 0
IsFreeOfRules t = (keys : Keys) (olds news : List Row) → works t.schema keys 0 t.tree olds news ≡ []

-- What a list owes of its table alone. All of it holds by computation.
pub record IsTabled (t : TableOf) : Type 0 where
  pub there : slice_get t.schema.tables t.place ≡ Some (table_of t)
  pub deletes : IsCompiledTo t t.delete (Delete t.place (record { lets = []; body = rowids_where t.tree t.tests }))
  pub updates : IsCompiledTo t t.update (Update t.place (record { lets = []; body = rows_where t.tree t.tests (col 1 0 ∷ col 1 0 ∷ t.sets) }))
  pub inserts : IsCompiledTo t t.insert (Insert t.place (Values t.values (length t.values)))
  pub selects : IsCompiledTo t t.select (Select (record { lets = []; body = whole_table t.tree t.projected }) t.names)
  pub is_no_listing : reads_listing t.schema t.select ≡ false
  pub own_tree : HasOwnTree t
  pub free : IsFreeOfRules t
  pub guarded : list_any (λ i. is_key_index (table_of t) t.key i) t.schema.indexes ≡ true

pub computed : (t : TableOf) → slice_get t.schema.tables t.place ≡ Some (table_of t)
    → IsCompiledTo t t.delete (Delete t.place (record { lets = []; body = rowids_where t.tree t.tests }))
    → IsCompiledTo t t.update (Update t.place (record { lets = []; body = rows_where t.tree t.tests (col 1 0 ∷ col 1 0 ∷ t.sets) }))
    → IsCompiledTo t t.insert (Insert t.place (Values t.values (length t.values)))
    → IsCompiledTo t t.select (Select (record { lets = []; body = whole_table t.tree t.projected }) t.names) → reads_listing t.schema t.select ≡ false
    → HasOwnTree t → IsFreeOfRules t → list_any (λ i. is_key_index (table_of t) t.key i) t.schema.indexes ≡ true → IsTabled t
computed t there deletes updates inserts selects is_no_listing own_tree free guarded = record {
  there = there;
  deletes = deletes;
  updates = updates;
  inserts = inserts;
  selects = selects;
  is_no_listing = is_no_listing;
  own_tree = own_tree;
  free = free;
  guarded = guarded;
}

-- What it owes of its rows.
module _ {X : Type 0} (l : ListOf X) where
  -- a row is written, read and set as its columns
  abbrev pub IsWritten : Type 0
  IsWritten =
      (x : X) → value_rows (l.columns x) (length l.table.values) (length l.table.values / length l.table.values) l.table.values
      ≡ (Null ∷ l.columns x) ∷ []

  abbrev pub IsRead : Type 0
  IsRead = (id : ℤ) (x : X) → eval_all l.table.projected ([] ∷ (Int id ∷ l.columns x) ∷ []) ≡ l.columns x

  abbrev pub IsSet : Type 0
  IsSet = (x : X) (id : ℤ) (y : X) → eval_all l.table.sets (l.columns x ∷ (Int id ∷ l.columns y) ∷ []) ≡ l.columns x

  -- the columns of a key find the row of that key, and so do the columns of a row
  abbrev pub FindsItsKey : Type 0
  FindsItsKey = (n : ℕ) (id : ℤ) (x : X) → l.Fits x → list_all (holds (l.key_columns n ∷ (Int id ∷ l.columns x) ∷ [])) l.table.tests ≡ (l.key x == n)

  abbrev pub MeetsItsKey : Type 0
  MeetsItsKey =
      (x : X) (id : ℤ) (y : X) → l.Fits x → l.Fits y
      → list_all (holds (l.columns x ∷ (Int id ∷ l.columns y) ∷ [])) l.table.tests ≡ (l.key y == l.key x)

  -- rows agree in the columns of the key where one finds the other
  abbrev pub AgreesInItsKey : Type 0
  AgreesInItsKey =
      (x : X) (id new : ℤ) (y : X) → agree plain l.table.key (Int id ∷ l.columns y) l.table.key (Int new ∷ l.columns x)
      ≡ list_all (holds (l.columns x ∷ (Int id ∷ l.columns y) ∷ [])) l.table.tests

  abbrev pub IsReadBack : Type 0
  IsReadBack = (x : X) → l.Fits x → l.reads (l.columns x) ≡ x

  -- what holds of the list by computation alone
  abbrev pub Computes : Type 0
  Computes = IsTabled l.table × AgreesInItsKey
