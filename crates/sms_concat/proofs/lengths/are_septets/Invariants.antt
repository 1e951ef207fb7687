use Rattle.std.proofs.Common.{ℕ, ◌<◌, get_or}
use Rattle.sms_concat.proofs.lengths.are_septets.Given as goal

abbrev pub invariant-loop-unit : goal.invariant-loop-unit
invariant-loop-unit l = (k : ℕ) → k < l.unit-index → get_or l.units k 0 < 128
