use Rattle.std.proofs.Common.{◌<◌, ℕ, get_or}
use Rattle.smsc_status.specs.declared.commits.TheConstants.{LIMITS}
use Rattle.smsc_status.proofs.commits.place_of.Given as goal

abbrev pub invariant-loop-place : goal.invariant-loop-place
invariant-loop-place l = (before : ℕ) → before < l.place → get_or LIMITS before 0 < l.micros
