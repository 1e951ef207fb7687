use Rattle.std.proofs.Common.{◌≡◌, ◌++◌, take}
use Rattle.smsc_status.specs.Commits.{counted}
use Rattle.smsc_status.specs.Metrics.{first_buckets}
use Rattle.smsc_status.proofs.metrics.put_buckets.Given as goal

abbrev pub invariant-loop-place : goal.invariant-loop-place
invariant-loop-place l = (l.so_far ≡ counted (take l.place l.commits.counts)) × (l.out ≡ l.fn.out ++ first_buckets l.commits.counts l.place)
