use Rattle.std.proofs.Common.{◌≡◌, drop}
use Rattle.sms_rows.specs.table.Table.{row_at}
use Rattle.sms_rows.proofs.table.range.has_key.Given as goal

abbrev pub invariant-loop-row : goal.invariant-loop-row
invariant-loop-row g l = row_at g.C.Row.key l.key (drop l.row-index l.rows) ≡ row_at g.C.Row.key l.key l.rows
