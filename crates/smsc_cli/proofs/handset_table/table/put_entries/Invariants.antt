use Rattle.std.proofs.Common.{◌≡◌, ◌++◌, drop}
use Rattle.smsc_cli.specs.columns.Columns.{lines}
use Rattle.smsc_cli.specs.handset_table.HandsetTable.{entry_line}
use Rattle.smsc_cli.proofs.handset_table.table.put_entries.Given as goal

abbrev pub invariant-loop-entry : goal.invariant-loop-entry
invariant-loop-entry l = l.out ++ lines entry_line (drop l.entry-index l.entries) ≡ l.fn.out ++ lines entry_line l.entries
