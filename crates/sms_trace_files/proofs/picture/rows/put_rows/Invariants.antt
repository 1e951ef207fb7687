use Rattle.std.proofs.Common.{◌≡◌, ◌++◌, drop}
use Rattle.sms_trace_files.specs.picture.Rows.{rows_drawn}
use Rattle.sms_trace_files.proofs.picture.rows.put_rows.Given as goal

abbrev pub invariant-loop-row : goal.invariant-loop-row
invariant-loop-row l =
    l.out ++ rows_drawn l.columns.table.items l.columns.count (drop l.row-index l.rows)
    ≡ l.fn.out ++ rows_drawn l.columns.table.items l.columns.count l.rows
