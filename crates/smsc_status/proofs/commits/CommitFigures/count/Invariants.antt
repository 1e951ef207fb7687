use Rattle.std.proofs.Common.{◌≡◌, take}
use Rattle.smsc_status.specs.Commits.{counted}
use Rattle.smsc_status.proofs.commits.CommitFigures.count.Given as goal

abbrev pub invariant-loop-some : goal.invariant-loop-some
invariant-loop-some l = l.count ≡ counted (take l.some-index l.self.counts)
