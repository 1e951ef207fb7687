-- A database without tables.
use Rattle.std.specs.Prelude.{[]}
use Rattle.sqlite.specs.Schema.{Schema}

abbrev pub no_tables : Schema
no_tables = record { tables = []; indexes = []; views = [] }
