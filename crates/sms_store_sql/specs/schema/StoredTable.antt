-- The tables and indexes that a store is to have.
use Rattle.std.specs.Prelude.{List, [], map}
use Rattle.sqlite.specs.Schema.{Schema}
use Rattle.sqlite.specs.Table.{Table}
use Rattle.sqlite_schema.specs.declared.schema.Index.{Index}
use Rattle.sqlite_value.specs.Keys.{plain}
use Rattle.sms_store_sql.specs.declared.schema.indexes.IndexPlan.{IndexPlan}
use Rattle.sms_store_sql.specs.declared.schema.tables.StoredTable.{StoredTable}
use Rattle.sms_store_sql.specs.listing.Listing.{keyed_table}
use Rattle.sms_store_sql.specs.schema.ColumnPlan.{column_of}

abbrev pub index_planned : IndexPlan → Index
index_planned plan =
    record { name = plan.name.now; tree = plan.tree; table = plan.table; columns = plan.columns.now; order = plain; is_unique = plan.is_unique }

abbrev pub table_planned : StoredTable → Table
table_planned plan = keyed_table plan.name.now plan.tree (map column_of plan.columns.now) plan.key.now

-- these and no others
abbrev pub schema_planned : List StoredTable → List IndexPlan → Schema
schema_planned tables indexes = record { tables = map table_planned tables; indexes = map index_planned indexes; views = [] }
