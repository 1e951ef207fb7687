use Rattle.std.proofs.Common.{◌≡◌, ◌<◌, ℕ, take}
use Rattle.smsc_status.specs.Commits.{Reaches, counted}
use Rattle.smsc_status.proofs.commits.CommitFigures.quantile.Given as goal

abbrev pub invariant-loop-place : goal.invariant-loop-place
invariant-loop-place l =
    (l.so_far ≡ counted (take l.place l.self.counts)) × ((before : ℕ) → before < l.place → Reaches l.self.counts l.of_hundred before → ⊥)
