use Rattle.std.proofs.Common.{◌≡◌, drop, max}
use Rattle.smsc_status.specs.Charts.{greatest_of}
use Rattle.smsc_status.proofs.chart.greatest.Given as goal

abbrev pub invariant-loop-value : goal.invariant-loop-value
invariant-loop-value l = max l.greatest (greatest_of (drop l.value-index l.values)) ≡ greatest_of l.values
