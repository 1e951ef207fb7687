use Rattle.std.proofs.Common.{◌≡◌, ◌++◌, drop}
use Rattle.smsc_cli.specs.columns.Columns.{lines}
use Rattle.smsc_cli.specs.centre_table.StuckTable.{stuck_line}
use Rattle.smsc_cli.proofs.centre_table.stuck.put_lines.Given as goal

abbrev pub invariant-loop-line : goal.invariant-loop-line
invariant-loop-line l = l.out ++ lines stuck_line (drop l.line-index l.rows) ≡ l.fn.out ++ lines stuck_line l.rows
