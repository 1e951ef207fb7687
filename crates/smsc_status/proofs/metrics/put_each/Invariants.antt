use Rattle.std.proofs.Common.{◌≡◌, ◌++◌, drop}
use Rattle.std.specs.Prelude.{flat_map}
use Rattle.smsc_status.proofs.metrics.put_each.Given as goal

abbrev pub invariant-loop-some : goal.invariant-loop-some
invariant-loop-some g l = l.out ++ flat_map g.T.Written.text (drop l.some-index l.list) ≡ l.fn.out ++ flat_map g.T.Written.text l.list
