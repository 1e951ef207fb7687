use Rattle.std.proofs.Common.{◌≡◌, ◌++◌, replicate}
use Rattle.smsc_cli.proofs.columns.cells.put_spaces.Given as goal

abbrev pub invariant-loop : goal.invariant-loop
invariant-loop l = l.out ≡ l.fn.out ++ replicate l.counter 32
