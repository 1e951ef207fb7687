use Rattle.std.proofs.Common.{◌≡◌, List, map, take}
use Rattle.std.specs.List.{AllByRecursion}
use Rattle.sms_store_sql.proofs.listing.loading.rows_of.Given as goal

abbrev pub invariant-loop-row : goal.invariant-loop-row
invariant-loop-row g l = (seen : List _) → AllByRecursion g.T.StoredRow.list.Fits seen → l.rows ≡ map g.T.StoredRow.list.columns seen → l.found.items ≡ take l.row-index seen
