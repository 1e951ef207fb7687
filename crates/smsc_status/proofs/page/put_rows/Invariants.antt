use Rattle.std.proofs.Common.{◌≡◌, ◌++◌, drop}
use Rattle.std.specs.Prelude.{flat_map}
use Rattle.smsc_status.proofs.page.put_rows.Given as goal

abbrev pub invariant-loop-some : goal.invariant-loop-some
invariant-loop-some g l = l.out ++ flat_map g.T.Row.text (drop l.some-index l.rows) ≡ l.fn.out ++ flat_map g.T.Row.text l.rows
