-- A list of two columns whose key is both: what a list owes, in a few lines. It also shows that `IsList` can be met.
use Rattle.std.proofs.Common.{◌≡◌, ℕ, ℤ, pos, ◌<◌, ◌/◌, ◌%◌, true, false, ◌&&◌, ◌==◌, [], ◌∷◌, codes, refl, ap, ap₂, ◌∙◌}
use Rattle.std.specs.List.{list_all, list_any}
use Rattle.sms_base.proofs.Bools.{and_true}
use Rattle.sqlite.specs.declared.types.Value.TheVariants.{Null, Int}
use Rattle.sqlite_value.specs.Order.{column}
use Rattle.sqlite.specs.Schema.{Schema}
use Rattle.sqlite.specs.Kind.TheVariants.{Integer}
use Rattle.sqlite.specs.Term.{col, holds}
use Rattle.sqlite.specs.Source.TheVariants.{Values}
use Rattle.sqlite.specs.Command.TheVariants.{Insert, Update, Delete, Select}
use Rattle.sqlite.specs.Listing.{understood, reads_listing}
use Rattle.sqlite.proofs.Callers.{IsPlain, command_of}
use Rattle.sqlite_catalog.specs.Listing.{automatic}
use Rattle.sqlite_rules.specs.Cast.{cast_row}
use Rattle.sqlite_value.specs.Keys.{plain}
use Rattle.sqlite_schema.specs.Rules.{agree}
use Rattle.sqlite_tied.specs.Compute.{everything}
use Rattle.sms_rows.specs.table.Keys.{pair_key}
use Rattle.sms_store_sql.specs.listing.Columns.{number_in}
use Rattle.sms_store_sql.specs.listing.Listing.{given, keyed_table, TableOf, ListOf, IsList, table_of, rowids_where, rows_where, whole_table, row_of, given_from, columns_of, equals, is_key_index}
use Rattle.sms_store_sql.proofs.listing.Columns.{same_number, cast_null, cast_int, pair_found, pairs_agree}

record Part : Type 0 where
  message : ℕ
  number : ℕ

abbrev part_schema : Schema
part_schema =
    let part = keyed_table (codes "part") 0 (given (codes "message") Integer ∷ given (codes "number") Integer ∷ []) (1 ∷ 2 ∷ []) in
    record { tables = part ∷ []; indexes = automatic part 0 (1 ∷ 2 ∷ []) 1 ∷ []; views = [] }

abbrev part_table : TableOf
part_table = record {
  schema = part_schema;
  place = 0;
  tree = 0;
  name = codes "part";
  columns = given (codes "message") Integer ∷ given (codes "number") Integer ∷ [];
  key = 1 ∷ 2 ∷ [];
  create = codes "CREATE TABLE part (message INTEGER NOT NULL, number INTEGER NOT NULL, UNIQUE (message, number)) STRICT";
  delete = codes "DELETE FROM part WHERE message = ?1 AND number = ?2";
  tests = equals 1 0 ∷ equals 2 1 ∷ [];
  update = codes "UPDATE part SET message = ?1, number = ?2 WHERE message = ?1 AND number = ?2";
  sets = given_from 0 2;
  insert = codes "INSERT INTO part (message, number) VALUES (?1, ?2)";
  values = row_of 2;
  select = codes "SELECT message, number FROM part";
  projected = columns_of 2;
  names = codes "message" ∷ codes "number" ∷ [];
}

abbrev parts : ListOf Part
parts = record {
  table = part_table;
  key = λ p. pair_key p.message p.number;
  columns = λ p. Int (pos p.message) ∷ Int (pos p.number) ∷ [];
  reads = λ row. record { message = number_in (column row 0); number = number_in (column row 1) };
  key_columns = λ n. Int (pos (n / 256)) ∷ Int (pos (n % 256)) ∷ [];
  Fits = λ p. p.number < 256;
}

deletes : (command_of (understood part_schema part_table.delete) ≡ Delete 0 (record { lets = []; body = rowids_where 0 part_table.tests })) × IsPlain (understood part_schema part_table.delete)
unfolding understood everything
deletes = (refl, (refl, refl))

updates : (command_of (understood part_schema part_table.update) ≡ Update 0 (record { lets = []; body = rows_where 0 part_table.tests (col 1 0 ∷ col 1 0 ∷ part_table.sets) })) × IsPlain (understood part_schema part_table.update)
unfolding understood everything
updates = (refl, (refl, refl))

inserts : (command_of (understood part_schema part_table.insert) ≡ Insert 0 (Values part_table.values 3)) × IsPlain (understood part_schema part_table.insert)
unfolding understood everything
inserts = (refl, (refl, refl))

selects : (command_of (understood part_schema part_table.select) ≡ Select (record { lets = []; body = whole_table 0 part_table.projected }) part_table.names) × IsPlain (understood part_schema part_table.select)
    × (reads_listing part_schema part_table.select ≡ false)
unfolding understood everything
selects = (refl, (refl, refl), refl)

stays : (x : Part) → cast_row (table_of part_table) (Null ∷ parts.columns x) ≡ Null ∷ parts.columns x
stays x = rw (cast_null, cast_int (pos x.message), cast_int (pos x.number)) refl

finds : (n : ℕ) (id : ℤ) (x : Part) → x.number < 256 → list_all (holds (parts.key_columns n ∷ (Int id ∷ parts.columns x) ∷ [])) part_table.tests ≡ (pair_key x.message x.number == n)
finds n id x small =
    ap₂ (λ a b. a && (b && true)) (same_number x.message (n / 256)) (same_number x.number (n % 256)) ∙ ap (λ b. (x.message == n / 256) && b) (and_true _) ∙ pair_found x.message x.number n small

meets : (x : Part) (id : ℤ) (y : Part) → x.number < 256 → y.number < 256 → list_all (holds (parts.columns x ∷ (Int id ∷ parts.columns y) ∷ [])) part_table.tests ≡ (pair_key y.message y.number == pair_key x.message x.number)
meets x id y small few =
    ap₂ (λ a b. a && (b && true)) (same_number y.message x.message) (same_number y.number x.number) ∙ ap (λ b. (y.message == x.message) && b) (and_true _) ∙ pairs_agree y.message y.number x.message x.number few small

guarded : list_any (λ i. is_key_index (table_of part_table) part_table.key i) part_schema.indexes ≡ true
unfolding everything
guarded = refl

agrees : (x : Part) (id new : ℤ) (y : Part) → agree plain part_table.key (Int id ∷ parts.columns y) part_table.key (Int new ∷ parts.columns x)
    ≡ list_all (holds (parts.columns x ∷ (Int id ∷ parts.columns y) ∷ [])) part_table.tests
unfolding everything
agrees x id new y = refl

pub parts_are_listed : IsList parts
parts_are_listed = record {
  there = refl;
  deletes = deletes.0;
  deletes_alone = deletes.1;
  updates = updates.0;
  updates_alone = updates.1;
  inserts = inserts.0;
  inserts_alone = inserts.1;
  selects = selects.0;
  selects_alone = selects.1;
  is_no_listing = selects.2;
  own_tree = λ db. refl;
  free = λ keys olds news. refl;
  written = λ x. refl;
  read = λ id x. refl;
  stays = stays;
  finds = finds;
  meets = meets;
  guarded = guarded;
  agrees = agrees;
  sets = λ x id y. refl;
  reads_back = λ x fits. refl;
}
