use Rattle.std.proofs.Common.{◌≡◌, ◌++◌, drop}
use Rattle.sms_trace_files.specs.ladder.Lines.{lines_drawn}
use Rattle.sms_trace_files.proofs.ladder.lines.put_lines.Given as goal

abbrev pub invariant-loop-row : goal.invariant-loop-row
invariant-loop-row l =
    l.out ++ lines_drawn l.columns.table.items l.apart l.columns.count (drop l.row-index l.rows)
    ≡ l.fn.out ++ lines_drawn l.columns.table.items l.apart l.columns.count l.rows
