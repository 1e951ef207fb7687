-- The rows that a store has under a key, read one at a time.
use Rattle.std.specs.Prelude.{◌≡◌, ℕ, ◌==◌, List, filter, Option}
use Rattle.sqlite.specs.Effect.{Database}
use Rattle.sms_store_sql.specs.listing.Listing.{Represents}
use Rattle.sms_rows.specs.table.Table.{row_at}
use Rattle.sms_store_tables.specs.centre.PartList.{part_list}
use Rattle.sms_store_tables.specs.centre.ReportList.{report_list}
use Rattle.sms_store.specs.centre.Types.{PartRow, ReportRow}

abbrev pub HasParts : Database → Type 0
HasParts db = (parts : List PartRow) × Represents part_list (db.trees 4) parts

abbrev pub FindsPart : ℕ → Database → Option PartRow → Type 0
FindsPart key db found = (parts : List PartRow) → Represents part_list (db.trees 4) parts → found ≡ row_at part_list.key key parts

abbrev pub HasReports : Database → Type 0
HasReports db = (reports : List ReportRow) × Represents report_list (db.trees 10) reports

-- the reports of a message
abbrev pub FindsReports : ℕ → Database → List ReportRow → Type 0
FindsReports id db found = (reports : List ReportRow) → Represents report_list (db.trees 10) reports → found ≡ filter (λ r. r.id == id) reports
