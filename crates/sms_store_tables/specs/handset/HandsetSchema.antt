-- The tables of a handset's store, in the order in which they are made.
use Rattle.std.specs.Prelude.{◌≡◌, List, [], ◌∷◌, codes, refl}
use Rattle.sqlite.specs.Schema.{Schema}
use Rattle.sqlite.specs.Table.{Table}
use Rattle.sqlite.specs.Kind.TheVariants.{Integer, Text, Blob}
use Rattle.sqlite.specs.Change.{created}
use Rattle.sqlite_tied.specs.Compute.{everything}
use Rattle.sqlite.specs.Listing.{understood}
use Rattle.sms_store_sql.specs.listing.Listing.{given, optional}
use Rattle.sqlite_schema.specs.declared.schema.Index.{Index}
use Rattle.sms_store_sql.specs.schema.Blank.{no_tables}
use Rattle.sms_store_sql.specs.tabled.TablePlan.{TablePlan, made, defined, key_index}
use Rattle.sms_store_sql.specs.tabled.Tabled.{AddsPlan}
use Rattle.sms_store_sql.specs.tabled.MetaTable.{meta_plan}

-- ---- the tables

abbrev pub entry_plan : TablePlan
entry_plan = record {
  name = codes "entry";
  columns =
      given (codes "number") Integer ∷ given (codes "slots") Integer ∷ given (codes "kind") Text ∷ optional (codes "source_ton") Integer
      ∷ optional (codes "source_npi") Integer ∷ optional (codes "source") Text ∷ optional (codes "reference_bits") Integer
      ∷ optional (codes "reference") Integer ∷ optional (codes "total") Integer ∷ optional (codes "part") Integer ∷ optional (codes "coding") Text
      ∷ optional (codes "data_coding_scheme") Integer
      ∷ given (codes "octets") Blob ∷ [];
  key = 1;
}

abbrev pub last_plan : TablePlan
last_plan = record {
  name = codes "last_accepted";
  columns = given (codes "reference") Integer ∷ given (codes "tpdu") Blob ∷ [];
  key = 1;
}

abbrev pub out_plan : TablePlan
out_plan = record {
  name = codes "outbox";
  columns =
      given (codes "number") Integer ∷ given (codes "message_reference") Integer ∷ given (codes "reference") Integer ∷ given (codes "destination_ton") Integer
      ∷ given (codes "destination_npi") Integer ∷ given (codes "destination") Text ∷ given (codes "tpdu") Blob ∷ given (codes "is_long") Integer
      ∷ given (codes "state") Text ∷ given (codes "tries") Integer ∷ given (codes "rejects_duplicates") Integer ∷ optional (codes "due") Integer
      ∷ optional (codes "status") Integer ∷ [];
  key = 1;
}

abbrev pub mark_plan : TablePlan
mark_plan = record {
  name = codes "discarded_group";
  columns =
      given (codes "number") Integer ∷ given (codes "source_ton") Integer ∷ given (codes "source_npi") Integer ∷ given (codes "source") Text
      ∷ given (codes "reference_bits") Integer ∷ given (codes "reference") Integer ∷ given (codes "total") Integer ∷ given (codes "seen") Blob ∷ [];
  key = 1;
}

abbrev pub count_plan : TablePlan
count_plan = record {
  name = codes "counters";
  columns =
      given (codes "place") Integer ∷ given (codes "next_entry") Integer ∷ given (codes "next_message_reference") Integer
      ∷ given (codes "next_reference") Integer ∷ given (codes "next_concat_reference") Integer
      ∷ given (codes "next_notice") Integer ∷ given (codes "is_memory_full") Integer ∷ [];
  key = 1;
}

-- ---- the schemas, in the order in which their tables are made

abbrev pub with_meta : Schema
with_meta = created no_tables (made meta_plan)

pub adds_meta : AddsPlan meta_plan no_tables with_meta
unfolding understood everything
adds_meta = record { creates = refl; whole = refl; alone = (refl, refl); defines = refl; created_is = refl; unnumbered = refl }

abbrev pub with_entry : Schema
with_entry = created with_meta (made entry_plan)

pub adds_entry : AddsPlan entry_plan with_meta with_entry
unfolding understood everything
adds_entry = record { creates = refl; whole = refl; alone = (refl, refl); defines = refl; created_is = refl; unnumbered = refl }

abbrev pub with_last : Schema
with_last = created with_entry (made last_plan)

pub adds_last : AddsPlan last_plan with_entry with_last
unfolding understood everything
adds_last = record { creates = refl; whole = refl; alone = (refl, refl); defines = refl; created_is = refl; unnumbered = refl }

abbrev pub with_out : Schema
with_out = created with_last (made out_plan)

pub adds_out : AddsPlan out_plan with_last with_out
unfolding understood everything
adds_out = record { creates = refl; whole = refl; alone = (refl, refl); defines = refl; created_is = refl; unnumbered = refl }

abbrev pub with_mark : Schema
with_mark = created with_out (made mark_plan)

pub adds_mark : AddsPlan mark_plan with_out with_mark
unfolding understood everything
adds_mark = record { creates = refl; whole = refl; alone = (refl, refl); defines = refl; created_is = refl; unnumbered = refl }

abbrev pub with_count : Schema
with_count = created with_mark (made count_plan)

pub adds_count : AddsPlan count_plan with_mark with_count
unfolding understood everything
adds_count = record { creates = refl; whole = refl; alone = (refl, refl); defines = refl; created_is = refl; unnumbered = refl }

-- ---- all of them

abbrev pub handset_schema : Schema
handset_schema = with_count

-- ---- as the schema has them: each table with its tree, and the index that SQLite makes for its key

-- all tables and indexes
abbrev pub handset_tables : List Table
handset_tables =
    defined 0 meta_plan ∷ defined 2 entry_plan ∷ defined 4 last_plan ∷ defined 6 out_plan ∷ defined 8 mark_plan ∷ defined 10 count_plan ∷ []

abbrev pub handset_indexes : List Index
handset_indexes =
    key_index 0 meta_plan ∷ key_index 2 entry_plan ∷ key_index 4 last_plan ∷ key_index 6 out_plan
    ∷ key_index 8 mark_plan ∷ key_index 10 count_plan ∷ []

abbrev pub handset_made : Schema
handset_made = record { tables = handset_tables; indexes = handset_indexes; views = [] }

pub schema_is : handset_schema ≡ handset_made
unfolding everything
schema_is = refl
