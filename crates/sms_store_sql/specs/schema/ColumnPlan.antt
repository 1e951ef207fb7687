-- The columns that a table is to have.
use Rattle.std.specs.Prelude.{true, not}
use Rattle.sqlite.specs.Collation.TheVariants.{Binary}
use Rattle.sqlite.specs.declared.types.Value.TheVariants.{Null}
use Rattle.sqlite_schema.specs.declared.schema.Column.{Column}
use Rattle.sms_store_sql.specs.declared.schema.columns.ColumnPlan.{ColumnPlan}

-- the column of a STRICT table
abbrev pub column_of : ColumnPlan → Column
column_of w = record { name = w.name.now; kind = w.kind; is_strict = true; not_null = not w.is_optional; default = Null; collation = Binary }
