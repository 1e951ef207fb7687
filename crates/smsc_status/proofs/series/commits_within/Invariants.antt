use Rattle.std.proofs.Common.{◌≡◌, take}
use Rattle.smsc_status.specs.Series.{commits_in}
use Rattle.smsc_status.proofs.series.commits_within.Given as goal

abbrev pub invariant-loop-sample : goal.invariant-loop-sample
invariant-loop-sample l = l.commits ≡ commits_in (take l.sample-index l.samples)
