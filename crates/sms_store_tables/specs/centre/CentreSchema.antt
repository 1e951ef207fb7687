-- The tables of a centre's store, in the order in which they are made. That of priorities is of version 2, and with it the index that
-- finds the reports of a message. That of bars is of version 3.
use Rattle.std.specs.Prelude.{◌≡◌, ℕ, false, List, [], ◌∷◌, codes, take, refl}
use Rattle.sqlite.specs.Schema.{Schema}
use Rattle.sqlite.specs.Table.{Table}
use Rattle.sqlite.specs.Kind.TheVariants.{Integer, Text, Blob}
use Rattle.sqlite.specs.Change.{created, indexed}
use Rattle.sqlite_tied.specs.Compute.{everything}
use Rattle.sqlite.specs.Listing.{understood}
use Rattle.sms_store_sql.specs.listing.Listing.{given, optional}
use Rattle.sms_store_tables.specs.centre.Indexing.{AddsIndex}
use Rattle.sqlite_schema.specs.declared.schema.Index.{Index}
use Rattle.sqlite_value.specs.Keys.{plain}
use Rattle.sms_store_sql.specs.schema.Blank.{no_tables}
use Rattle.sms_store_sql.specs.tabled.TablePlan.{TablePlan, made, defined, key_index}
use Rattle.sms_store_sql.specs.tabled.Tabled.{AddsPlan}
use Rattle.sms_store_sql.specs.tabled.MetaTable.{meta_plan}

-- ---- the tables

abbrev pub message_plan : TablePlan
message_plan = record {
  name = codes "message";
  columns =
      given (codes "id") Integer ∷ optional (codes "account") Blob ∷ optional (codes "message_reference") Integer ∷ given (codes "source_ton") Integer
      ∷ given (codes "source_npi") Integer ∷ given (codes "source") Text ∷ given (codes "handset") Text ∷ given (codes "data_coding_scheme") Integer
      ∷ given (codes "protocol_identifier") Integer ∷ given (codes "wish") Text ∷ given (codes "submitted") Integer ∷ given (codes "expires") Integer
      ∷ optional (codes "split_reference") Integer ∷ given (codes "state") Text ∷ optional (codes "done") Integer ∷ [];
  key = 1;
}

abbrev pub part_plan : TablePlan
part_plan = record {
  name = codes "part";
  columns =
      given (codes "message") Integer ∷ given (codes "number") Integer ∷ given (codes "reference") Integer ∷ given (codes "tpdu") Blob
      ∷ optional (codes "concat_bits") Integer ∷ optional (codes "concat_reference") Integer ∷ optional (codes "concat_total") Integer
      ∷ optional (codes "concat_number") Integer ∷ given (codes "is_done") Integer ∷ given (codes "attempts") Integer ∷ given (codes "due") Integer ∷ [];
  key = 2;
}

abbrev pub reference_plan : TablePlan
reference_plan = record {
  name = codes "given_reference";
  columns = given (codes "place") Integer ∷ given (codes "reference") Integer ∷ given (codes "last_given") Integer ∷ [];
  key = 2;
}

abbrev pub handset_plan : TablePlan
handset_plan = record {
  name = codes "handset";
  columns = given (codes "place") Integer ∷ given (codes "number") Text ∷ given (codes "last_reference") Integer ∷ [];
  key = 1;
}

abbrev pub report_plan : TablePlan
report_plan = record {
  name = codes "report";
  columns =
      given (codes "place") Integer ∷ given (codes "message") Integer ∷ given (codes "kind") Text ∷ optional (codes "reference") Integer
      ∷ optional (codes "tpdu") Blob ∷ given (codes "made") Integer ∷ given (codes "is_done") Integer ∷ given (codes "attempts") Integer
      ∷ given (codes "due") Integer ∷ [];
  key = 1;
}

abbrev pub priority_plan : TablePlan
priority_plan = record {
  name = codes "priority";
  columns = given (codes "message") Integer ∷ given (codes "priority") Integer ∷ [];
  key = 1;
}

abbrev pub bar_plan : TablePlan
bar_plan = record {
  name = codes "bar";
  columns =
      given (codes "place") Integer ∷ given (codes "source_ton") Integer ∷ given (codes "source_npi") Integer ∷ given (codes "source") Text
      ∷ given (codes "handset") Text ∷ given (codes "reference") Integer ∷ given (codes "is_own") Integer ∷ [];
  key = 1;
}

-- ---- the schemas, in the order in which their tables are made

abbrev pub with_meta : Schema
with_meta = created no_tables (made meta_plan)

pub adds_meta : AddsPlan meta_plan no_tables with_meta
unfolding understood everything
adds_meta = record { creates = refl; whole = refl; alone = (refl, refl); defines = refl; created_is = refl; unnumbered = refl }

abbrev pub with_message : Schema
with_message = created with_meta (made message_plan)

pub adds_message : AddsPlan message_plan with_meta with_message
unfolding understood everything
adds_message = record { creates = refl; whole = refl; alone = (refl, refl); defines = refl; created_is = refl; unnumbered = refl }

abbrev pub with_part : Schema
with_part = created with_message (made part_plan)

pub adds_part : AddsPlan part_plan with_message with_part
unfolding understood everything
adds_part = record { creates = refl; whole = refl; alone = (refl, refl); defines = refl; created_is = refl; unnumbered = refl }

abbrev pub with_reference : Schema
with_reference = created with_part (made reference_plan)

pub adds_reference : AddsPlan reference_plan with_part with_reference
unfolding understood everything
adds_reference = record { creates = refl; whole = refl; alone = (refl, refl); defines = refl; created_is = refl; unnumbered = refl }

abbrev pub with_handset : Schema
with_handset = created with_reference (made handset_plan)

pub adds_handset : AddsPlan handset_plan with_reference with_handset
unfolding understood everything
adds_handset = record { creates = refl; whole = refl; alone = (refl, refl); defines = refl; created_is = refl; unnumbered = refl }

abbrev pub with_report : Schema
with_report = created with_handset (made report_plan)

pub adds_report : AddsPlan report_plan with_handset with_report
unfolding understood everything
adds_report = record { creates = refl; whole = refl; alone = (refl, refl); defines = refl; created_is = refl; unnumbered = refl }

abbrev pub with_priority : Schema
with_priority = created with_report (made priority_plan)

pub adds_priority : AddsPlan priority_plan with_report with_priority
unfolding understood everything
adds_priority = record { creates = refl; whole = refl; alone = (refl, refl); defines = refl; created_is = refl; unnumbered = refl }

-- ---- the reports of a message

-- An index that SQLite makes for a key is unique, and has the tree behind that of its table. This one is for a column that is no key.
abbrev pub report_message_made : Index
report_message_made = record { name = codes "report_message"; tree = 0; table = 10; columns = 2 ∷ []; order = plain; is_unique = false }

abbrev pub create_report_message : List ℕ
create_report_message = codes "CREATE INDEX report_message ON report (message)"

abbrev pub with_report_message : Schema
with_report_message = indexed with_priority (defined 10 report_plan) report_message_made

pub adds_report_message : AddsIndex create_report_message 5 (defined 10 report_plan) report_message_made with_priority with_report_message
unfolding understood everything
adds_report_message = record { creates = refl; whole = refl; alone = (refl, refl); there = refl; defines = refl; indexed_is = refl }

-- ---- the bars

abbrev pub with_bar : Schema
with_bar = created with_report_message (made bar_plan)

pub adds_bar : AddsPlan bar_plan with_report_message with_bar
unfolding understood everything
adds_bar = record { creates = refl; whole = refl; alone = (refl, refl); defines = refl; created_is = refl; unnumbered = refl }

-- ---- all of them

-- those of version 1
abbrev pub first_schema : Schema
first_schema = with_report

-- of version 2
abbrev pub second_schema : Schema
second_schema = with_report_message

abbrev pub centre_schema : Schema
centre_schema = with_bar

-- ---- as the schema has them: each table with its tree, and the index that SQLite makes for its key

abbrev pub report_message_index : Index
report_message_index = record { name = codes "report_message"; tree = 14; table = 10; columns = 2 ∷ []; order = plain; is_unique = false }

abbrev pub centre_tables : List Table
centre_tables =
    defined 0 meta_plan ∷ defined 2 message_plan ∷ defined 4 part_plan ∷ defined 6 reference_plan ∷ defined 8 handset_plan
    ∷ defined 10 report_plan ∷ defined 12 priority_plan ∷ defined 15 bar_plan ∷ []

abbrev pub centre_indexes : List Index
centre_indexes =
    key_index 0 meta_plan ∷ key_index 2 message_plan ∷ key_index 4 part_plan ∷ key_index 6 reference_plan
    ∷ key_index 8 handset_plan ∷ key_index 10 report_plan ∷ key_index 12 priority_plan ∷ report_message_index ∷ key_index 15 bar_plan ∷ []

-- so many of them, the first that are made
abbrev pub first_made : ℕ → ℕ → Schema
first_made tables indexes = record { tables = take tables centre_tables; indexes = take indexes centre_indexes; views = [] }

pub first_schema_is : first_schema ≡ first_made 6 6
unfolding everything
first_schema_is = refl

pub second_schema_is : second_schema ≡ first_made 7 8
unfolding everything
second_schema_is = refl

pub schema_is : centre_schema ≡ first_made 8 9
unfolding everything
schema_is = refl
