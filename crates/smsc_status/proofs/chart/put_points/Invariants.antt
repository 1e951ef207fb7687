use Rattle.std.proofs.Common.{◌≡◌, ◌+◌, ◌++◌, drop}
use Rattle.smsc_status.specs.Charts.{points_text}
use Rattle.smsc_status.proofs.chart.put_points.Given as goal

abbrev pub invariant-loop-i : goal.invariant-loop-i
invariant-loop-i l = l.out ++ points_text (l.first + l.i) l.greatest (drop l.i l.values) ≡ l.fn.out ++ points_text l.first l.greatest l.values
